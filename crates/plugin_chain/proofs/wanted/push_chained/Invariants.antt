use Rattle.std.proofs.Common.{◌≡◌, ◌++◌, drop}
use Rattle.plugin_chain.specs.Wanted.{all_chained_calls, all_chained_results}
use Rattle.plugin_chain.proofs.wanted.push_chained.Given as goal

-- what was called and what is left to call are the whole, and the result likewise
abbrev pub invariant-loop-plugin : goal.invariant-loop-plugin
invariant-loop-plugin l = record {
  calls : l.calls.items ++ all_chained_calls (drop l.plugin-index l.chained) l.att l.netns l.mappings l.last
      ≡ l.initial.calls.items ++ all_chained_calls l.chained l.att l.netns l.mappings l.initial.last;
  last : all_chained_results (drop l.plugin-index l.chained) l.last ≡ all_chained_results l.chained l.initial.last;
}
