-- Two lists that differ at a place.
use Rattle.std.proofs.Common.{◌≡◌, ℕ, ◌<◌, List, map, length, get_or, Some, option_map, sym, ap, ◌∙◌}
use Rattle.std.specs.Prelude.{slice_get}
use Rattle.std.proofs.lemmas.Option.{slice_get-map, slice_get-get_or, same_Some}

module _ {A B C : Type 0} (f : B → C) (g : A → B) (i : ℕ) where
  at_place : (xs : List A) (x : A) → i < length xs → x ≡ get_or xs i x → slice_get (map f (map g xs)) i ≡ Some (f (g x))
  at_place xs x h e =
      slice_get-map f (map g xs) i ∙ ap (option_map f) (slice_get-map g xs i ∙ ap (option_map g) (slice_get-get_or xs i x h))
      ∙ ap (λ y. Some (f (g y))) (sym e)

  -- what stands there in lists that come to the same comes to the same
  pub same_place : (xs ys : List A) (x y : A) → i < length xs → i < length ys → x ≡ get_or xs i x → y ≡ get_or ys i y →
      map f (map g xs) ≡ map f (map g ys) → f (g x) ≡ f (g y)
  same_place xs ys x y hx hy ex ey e =
      same_Some (f (g x)) (f (g y)) (sym (at_place xs x hx ex) ∙ (ap (λ zs. slice_get zs i) e ∙ at_place ys y hy ey))
