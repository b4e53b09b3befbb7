use Rattle.std.proofs.Common.{rules, arith, ◌≡◌, ◌<◌, ◌≤◌, length}
use Rattle.script_commands.proofs.Reading.{known_long, known_short}
use Rattle.script_commands.proofs.script.read_script.Goals as goal

pub returns-then-len-gt-MOST_BYTES-clause-refused :
    goal.returns-then-len-gt-MOST_BYTES-clause-refused
returns-then-len-gt-MOST_BYTES-clause-refused g c =
    let more : 65536 < length c.in_ok-text.text.items = search rules in
    λ written. known_long _ c.in_ok-text.text.items c.in_ok-text.ensures.ok more

pub returns-then-len-gt-MOST_BYTES-clause-unread :
    goal.returns-then-len-gt-MOST_BYTES-clause-unread
returns-then-len-gt-MOST_BYTES-clause-unread g c =
    let more : 65536 < length c.in_ok-text.text.items = search rules in
    let most : length c.in_ok-text.text.items ≤ 65537 = search rules in
    (c.in_ok-text.text.items, c.in_ok-text.ensures.taken, omega (arith, more, most))

pub returns-clause-ok : goal.returns-clause-ok
returns-clause-ok g c =
    let less : length c.in_ok-text.text.items ≤ 65536 = search rules in
    known_short _ c.in_ok-text.text.items c.in_ok-text.ensures.ok less
