mod DumpLemmas
mod TextLemmas
