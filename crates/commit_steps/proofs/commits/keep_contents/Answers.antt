use Rattle.std.proofs.Common.{◌≡◌, ◌+◌, ◌∷◌, ap, drop, subst, sym, ◌∙◌}
use Rattle.std.specs.Prelude.{IfOk}
use Rattle.meaning.specs.Runs.{past}
use Rattle.protocol.specs.Commits.{keeps_content, keeps_contents}
use Rattle.commit_steps.proofs.Adding.{drop_or}
use Rattle.commit_steps.proofs.Contents.{next_kept}
use Rattle.commit_steps.proofs.commits.keep_contents.Goals as goal

pub loop-i-preserved : goal.loop-i-preserved
loop-i-preserved c =
    let o = c.args.object in
    let i = c.loop-i.i in
    let n = c.args.number in
    let cs = c.args.contents.now in
    let it = c.index-contents-i.result in
    let parts : drop i cs ≡ it ∷ drop (i + 1) cs = drop_or cs i it it c.loop-i-test.true c.index-contents-i.is in
    let found = c.in_ok-result in
    let behind = subst (λ r. IfOk r (λ p. p ≡ past o i)) (sym found.ensures.told) c.id_behind.ensures.object in
    ap (λ h. keeps_contents h (past o (i + 1)) n (drop (i + 1) cs))
    (c.in_ok-keep_content.ensures.done ∙ ap (λ h. keeps_content h found.result n it) found.ensures.done ∙ ap (λ p. keeps_content c.loop-i.here p n it) behind)
    ∙ next_kept c.loop-i.here o i n it (drop (i + 1) cs)
    ∙ sym (ap (keeps_contents c.loop-i.here (past o i) n) parts)
    ∙ c.loop-i.invariant
