use Rattle.std.proofs.Common.{◌≡◌, ℕ, List, [], ◌++◌, ap, ◌∙◌, append_assoc}
use Rattle.std.specs.List.{flat_map}
use Rattle.page_text.specs.declared.frame.TheConstants.{HEAD, TAIL}
use Rattle.page_text.specs.Escaped.{escaped}
use Rattle.page_text.proofs.text.page_text.Goals as goal

-- what is written piece by piece
pieces : (none first second third head json text tail before behind : List ℕ) → none ≡ [] → before ≡ head → json ≡ text → behind ≡ tail →
    first ≡ none ++ before → second ≡ first ++ flat_map escaped json → third ≡ second ++ behind → third ≡ head ++ (flat_map escaped text ++ tail)
pieces none first second third head json text tail before behind empty h j t one two three =
    three ∙ ap (λ x. x ++ behind) (two ∙ ap (λ x. x ++ flat_map escaped json) (one ∙ ap (λ x. x ++ before) empty ∙ h) ∙ ap (λ x. head ++ flat_map escaped x) j)
    ∙ ap (λ x. (head ++ flat_map escaped text) ++ x) t ∙ append_assoc head (flat_map escaped text) tail

pub returns : goal.returns
returns c =
    pieces _ c.extend_from_slice.new.self.items c.write_escaped.new.page.items c.extend_from_slice-2.new.self.items HEAD.now _ _ TAIL.now _ _
    c.new-page.ensures.items c.as_bytes.ensures.value (c.as_bytes-2.ensures.value ∙ c.in_ok-text.ensures) c.as_bytes-3.ensures.value
    c.in_ok-extend_from_slice.ensures.items c.in_ok-write_escaped.ensures c.in_ok-extend_from_slice-2.ensures.items
