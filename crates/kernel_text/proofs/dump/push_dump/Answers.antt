use Rattle.kernel_text.proofs.DumpLemmas.{first_list, next_list}
use Rattle.kernel_text.proofs.dump.push_dump.Goals as goal

pub returns-clause-shown : goal.returns-clause-shown
returns-clause-shown c =
    let namespaces = first_list _ _ _ _ _ c.in_ok-push_lines.ensures.shown c.as_slice.ensures in
    let links = next_list _ _ _ _ _ _ _ namespaces c.in_ok-push_lines-2.ensures.shown c.as_slice-2.ensures in
    let addresses = next_list _ _ _ _ _ _ _ links c.in_ok-push_lines-3.ensures.shown c.as_slice-3.ensures in
    let routes = next_list _ _ _ _ _ _ _ addresses c.in_ok-push_lines-4.ensures.shown c.as_slice-4.ensures in
    let rules = next_list _ _ _ _ _ _ _ routes c.in_ok-push_lines-5.ensures.shown c.as_slice-5.ensures in
    let settings = next_list _ _ _ _ _ _ _ rules c.in_ok-push_lines-6.ensures.shown c.as_slice-6.ensures in
    let leases = next_list _ _ _ _ _ _ _ settings c.in_ok-push_lines-7.ensures.shown c.as_slice-7.ensures in
    let cached = next_list _ _ _ _ _ _ _ leases c.in_ok-push_lines-8.ensures.shown c.as_slice-8.ensures in
    let lasts = next_list _ _ _ _ _ _ _ cached c.in_ok-push_lines-9.ensures.shown c.as_slice-9.ensures in
    lasts
