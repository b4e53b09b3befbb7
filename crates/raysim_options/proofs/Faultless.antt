-- What the rows of a level of the parse have, where the words are at no fault.
use Rattle.std.proofs.Common.{◌≡◌, ◌&&◌, ◌||◌, ℕ, Bool, cond, true, false, zero, suc, arith, List, [], ◌∷◌, length, Option, Some, None, is_some, ne_eqb}
use Rattle.std.specs.Prelude.{IfSome, encode_utf8, slice_get, drop}
use Rattle.std.specs.List.{AllByRecursion, fold}
use Rattle.std.specs.Option.{option_map_or}
use Rattle.std.specs.Str.{bytes_eq, chars}
use Rattle.clap.specs.Lexer.{long_of, short_of}
use Rattle.clap.specs.Facts.{parser_of_value}
use Rattle.clap.specs.Walk.{Held, Names, Outcome, Row, Rule, Step, Text, Waiting, Walk, done, waits, plain, refused, idle, option, positional, next, trailing, subcommand, value}
use Rattle.clap.specs.Walk.{action_of, after_flag, after_step, arg_by_id, arg_by_index, arg_by_long, arg_by_short, attached_value, bundle_met, bundle_step, default_rows, flag_met, has_row}
use Rattle.clap.specs.Walk.{is_empty, is_pending, long_met, long_or_other, nothing_held, option_met, option_word, plain_word, reacted, reading_by, rows_after, settled, settled_rows}
use Rattle.clap.specs.Walk.{short_met, short_or_plain, subcommand_met, subcommand_or_other, takes_several, takes_values, to_positional, used_by_id, walk, walk_from, walked}
use Rattle.clap.specs.Walk.{walked_from, with_default, word_met}
use Rattle.clap.specs.Simple.{Shape}
use Rattle.clap.specs.Kinds.{Kinds, or_else, request_kinds, values_kinds}
use Rattle.clap.specs.Faults.{bundle_fault, bundle_step_fault, check_fault, default_fault, defaults_fault, flag_word_fault, flags_fault, level_fault, long_fault, option_fault, other_fault, positional_fault}
use Rattle.clap.specs.Faults.{react_fault, settle_fault, short_fault, step_fault, stray_fault, turn_fault, use_fault, walk_fault, word_fault}
use Rattle.clap.specs.declared.error.kind.ErrorKind.TheVariants.{TooManyValues}
use Rattle.raysim_options.proofs.Rows.{both_none, all_passed, IsFirst, RowsFit, found, with_values_fits, use_fits}

-- no step of a level of the parse is at fault
pub record IsFaultless (s : Shape) (names : Names) (words : List Text) (has : Bool) (below : Kinds) : Type 0 where
  pub turns : walk_fault s names (walk_from nothing_held) words ≡ []
  pub entered : below ≡ []
  pub settles : settle_fault s.rules s.args_override_self (walk s.rules names nothing_held words).held ≡ []
  pub defaults : defaults_fault (settled s.rules (walk s.rules names nothing_held words).held).rows s.rules ≡ []
  pub checks : check_fault s (rows_after s.rules names words) has ≡ []

pub level_parts : (s : Shape) (names : Names) (words : List Text) (has : Bool) (below : Kinds) → level_fault s names nothing_held words has below ≡ []
    → IsFaultless s names words has below
level_parts s names words has below e =
    let end = (walk s.rules names nothing_held words).held in
    let a = both_none (walk_fault s names (walk_from nothing_held) words) _ e in
    let b = both_none below _ a.1 in
    let c = both_none (settle_fault s.rules s.args_override_self end) _ b.1 in
    let d = both_none (defaults_fault (settled s.rules end).rows s.rules) _ c.1 in
    record { turns = a.0; entered = b.0; settles = c.0; defaults = d.0; checks = d.1 }

-- ---- the walk, over the words of a command whose rules have ids of their own

module _ (s : Shape) (first : AllByRecursion (IsFirst s.rules) s.rules) where
  by_id : (id : Text) → IfSome (arg_by_id s.rules id) (IsFirst s.rules)
  by_id id = found (IsFirst s.rules) _ s.rules first

  settle_by : (o : Option Rule) (vs : List Text) (rows : List Row) → IfSome o (IsFirst s.rules)
      → option_map_or (λ a. use_fault s.args_override_self a vs rows) o [] ≡ [] → RowsFit s.rules rows → RowsFit s.rules (used_by_id o vs rows)
  settle_by None vs rows is e h = h
  settle_by (Some a) vs rows is e h = use_fits s.rules s.args_override_self a vs rows is e h

  settle_at : (pending : Option (Text × List Text)) (rows : List Row)
      → option_map_or (λ p. option_map_or (λ a. use_fault s.args_override_self a p.1 rows) (arg_by_id s.rules p.0) []) pending [] ≡ [] → RowsFit s.rules rows
      → RowsFit s.rules (settled_rows s.rules pending rows)
  settle_at None rows e h = h
  settle_at (Some p) rows e h = settle_by (arg_by_id s.rules p.0) p.1 rows (by_id p.0) e h

  settle_fits : (h : Held) → settle_fault s.rules s.args_override_self h ≡ [] → RowsFit s.rules h.rows → RowsFit s.rules (settled s.rules h).rows
  settle_fits h e fits = settle_at h.pending h.rows e fits

  react_fits : (a : Rule) (vs : List Text) (h : Held) → IsFirst s.rules a → react_fault s.rules s.args_override_self a vs h ≡ [] → RowsFit s.rules h.rows
      → RowsFit s.rules (reacted s.rules a vs h).rows
  react_fits a vs h is e fits =
      let parts = both_none (settle_fault s.rules s.args_override_self h) _ e in
      use_fits s.rules s.args_override_self a vs _ is parts.1 (settle_fits h parts.0 fits)

  option_fits : (a : Rule) (v : Option Text) (h : Held) → IsFirst s.rules a → option_fault s.rules s.args_override_self a v h ≡ [] → RowsFit s.rules h.rows
      → RowsFit s.rules (option_met s.rules a v h).0.rows
  option_fits a None h is e fits = settle_fits h e fits
  option_fits a (Some v) h is e fits = react_fits a (v ∷ []) h is e fits

  flag_fits : (a : Rule) (v : Option Text) (h : Held) → IsFirst s.rules a
      → cond (is_some v) (TooManyValues ∷ []) (react_fault s.rules s.args_override_self a [] h) ≡ [] → RowsFit s.rules h.rows
      → RowsFit s.rules (flag_met s.rules a v h).0.rows
  flag_fits a None h is e fits = react_fits a [] h is e fits
  flag_fits a (Some v) h is e fits = fits

  long_fits : (o : Option Rule) (v : Option Text) (h : Held) → IfSome o (IsFirst s.rules) → long_fault s.rules s.args_override_self o v h ≡ []
      → RowsFit s.rules h.rows → RowsFit s.rules (long_met s.rules o v h).0.rows
  long_fits None v h is e fits = fits
  long_fits (Some a) v h is e fits = go (takes_values a) (option_fits a v h is) (flag_fits a v h is) e
    where
      go : (b : Bool)
          → (option_fault s.rules s.args_override_self a v h ≡ [] → RowsFit s.rules h.rows → RowsFit s.rules (option_met s.rules a v h).0.rows)
          → (cond (is_some v) (TooManyValues ∷ []) (react_fault s.rules s.args_override_self a [] h) ≡ [] → RowsFit s.rules h.rows
          → RowsFit s.rules (flag_met s.rules a v h).0.rows)
          → cond b (option_fault s.rules s.args_override_self a v h) (cond (is_some v) (TooManyValues ∷ []) (react_fault s.rules s.args_override_self a [] h)) ≡ []
          → RowsFit s.rules (cond b (option_met s.rules a v h) (flag_met s.rules a v h)).0.rows
      go true taken flag e = taken e fits
      go false taken flag e = flag e fits

  short_fits : (o : Option Rule) (rest : Text) (h : Held) (faults : Held → Kinds) (meets : Held → Held × Outcome) → IfSome o (IsFirst s.rules)
      → ((g : Held) → faults g ≡ [] → RowsFit s.rules g.rows → RowsFit s.rules (meets g).0.rows)
      → short_fault s.rules s.args_override_self o rest h faults ≡ [] → RowsFit s.rules h.rows → RowsFit s.rules (short_met s.rules o rest h meets).0.rows
  short_fits None rest h faults meets is after e fits = fits
  short_fits (Some a) rest h faults meets is after e fits = go (takes_values a) (option_fits a (attached_value rest) h is) (react_fits a [] h is) e
    where
      go : (b : Bool)
          → (option_fault s.rules s.args_override_self a (attached_value rest) h ≡ [] → RowsFit s.rules h.rows
          → RowsFit s.rules (option_met s.rules a (attached_value rest) h).0.rows)
          → (react_fault s.rules s.args_override_self a [] h ≡ [] → RowsFit s.rules h.rows → RowsFit s.rules (reacted s.rules a [] h).rows)
          → cond b (option_fault s.rules s.args_override_self a (attached_value rest) h)
          (or_else (react_fault s.rules s.args_override_self a [] h) (faults (reacted s.rules a [] h))) ≡ []
          → RowsFit s.rules (cond b (option_met s.rules a (attached_value rest) h) (meets (reacted s.rules a [] h))).0.rows
      go true taken flag e = taken e fits
      go false taken flag e =
          let parts = both_none (react_fault s.rules s.args_override_self a [] h) _ e in
          after (reacted s.rules a [] h) parts.1 (flag parts.0 fits)

  bundle_step_fits : (o : Option ℕ) (flags : Text) (skip : ℕ) (so_far : Outcome) (h : Held) (faults : Text → ℕ → Held → Kinds)
      (meets : Text → ℕ → Outcome → Held → Held × Outcome)
      → ((rest : Text) (n : ℕ) (so : Outcome) (g : Held) → faults rest n g ≡ [] → RowsFit s.rules g.rows → RowsFit s.rules (meets rest n so g).0.rows)
      → bundle_step_fault s.rules s.args_override_self o flags skip h faults ≡ [] → RowsFit s.rules h.rows
      → RowsFit s.rules (bundle_step s.rules o flags skip so_far h meets).0.rows
  bundle_step_fits None flags skip so_far h faults meets after e fits = fits
  bundle_step_fits (Some x) flags zero so_far h faults meets after e fits =
      short_fits (arg_by_short s.rules x) (drop (length (encode_utf8 x)) flags) h (faults (drop (length (encode_utf8 x)) flags) 0)
      (meets (drop (length (encode_utf8 x)) flags) 0 done) (found (IsFirst s.rules) _ s.rules first)
      (λ g none fit. after (drop (length (encode_utf8 x)) flags) 0 done g none fit) e fits
  bundle_step_fits (Some x) flags (suc skip) so_far h faults meets after e fits = after (drop (length (encode_utf8 x)) flags) skip so_far h e fits

  bundle_fits : (k : ℕ) (flags : Text) (skip : ℕ) (so_far : Outcome) (h : Held) → flags_fault s.rules s.args_override_self k flags skip h ≡ []
      → RowsFit s.rules h.rows → RowsFit s.rules (bundle_met s.rules k flags skip so_far h).0.rows
  unfolding bundle_met flags_fault
  bundle_fits zero flags skip so_far h e fits = fits
  bundle_fits (suc k) flags skip so_far h e fits =
      bundle_step_fits (slice_get (chars flags) 0) flags skip so_far h (flags_fault s.rules s.args_override_self k) (bundle_met s.rules k)
      (λ rest n so g none fit. bundle_fits k rest n so g none fit) e fits

  -- a word that is no flag changes no row
  option_word_fits : (o : Option Rule) (id word : Text) (h : Held) → RowsFit s.rules h.rows → RowsFit s.rules (option_word o id word h).0.rows
  option_word_fits None id word h fits = fits
  option_word_fits (Some a) id word h fits = fits

  plain_fits : (waiting : Waiting) (word : Text) (h : Held) → RowsFit s.rules h.rows → RowsFit s.rules (plain_word s.rules waiting word h).0.rows
  plain_fits idle word h fits = fits
  plain_fits (option id) word h fits = option_word_fits (arg_by_id s.rules id) id word h fits
  plain_fits positional word h fits = fits

  after_fits : (o : Outcome) (waiting : Waiting) (word : Text) (h : Held) → RowsFit s.rules h.rows → RowsFit s.rules (after_flag s.rules waiting word h o).0.rows
  after_fits done waiting word h fits = fits
  after_fits (waits id) waiting word h fits = fits
  after_fits plain waiting word h fits = plain_fits waiting word h fits
  after_fits refused waiting word h fits = plain_fits waiting word h fits

  short_word_fits : (o : Option Text) (waiting : Waiting) (word : Text) (h : Held)
      → option_map_or (λ flags. bundle_fault s.rules s.args_override_self flags h) o [] ≡ [] → RowsFit s.rules h.rows
      → RowsFit s.rules (short_or_plain s.rules waiting word o h).0.rows
  short_word_fits None waiting word h e fits = plain_fits waiting word h fits
  short_word_fits (Some flags) waiting word h e fits =
      after_fits _ waiting word _ (bundle_fits (length flags) flags h.skip plain (record h { skip = 0 }) e fits)

  flag_word_fits : (o : Option (Text × Option Text)) (waiting : Waiting) (word : Text) (h : Held)
      → flag_word_fault s.rules s.args_override_self o word h ≡ [] → RowsFit s.rules h.rows
      → RowsFit s.rules (long_or_other s.rules waiting word o h).0.rows
  flag_word_fits None waiting word h e fits = short_word_fits (short_of word) waiting word h e fits
  flag_word_fits (Some p) waiting word h e fits =
      after_fits _ waiting word _ (long_fits (arg_by_long s.rules p.0) p.1 h (found (IsFirst s.rules) _ s.rules first) e fits)

  other_fits : (o : Option Text) (waiting : Waiting) (position : ℕ) (word : Text) (h : Held) → other_fault s o word h ≡ [] → RowsFit s.rules h.rows
      → RowsFit s.rules (subcommand_or_other s.rules o waiting position word h).0.rows
  other_fits (Some name) waiting position word h e fits = fits
  other_fits None waiting position word h e fits = go (bytes_eq word (45 ∷ 45 ∷ [])) (flag_word_fits (long_of word) waiting word h) e
    where
      go : (b : Bool)
          → (flag_word_fault s.rules s.args_override_self (long_of word) word h ≡ [] → RowsFit s.rules h.rows
          → RowsFit s.rules (long_or_other s.rules waiting word (long_of word) h).0.rows)
          → cond b [] (flag_word_fault s.rules s.args_override_self (long_of word) word h) ≡ []
          → RowsFit s.rules (cond b (h, trailing position) (long_or_other s.rules waiting word (long_of word) h)).0.rows
      go true flag e = fits
      go false flag e = flag e fits

  word_fits : (names : Names) (is_trailing : Bool) (waiting : Waiting) (position : ℕ) (word : Text) (h : Held)
      → word_fault s names is_trailing waiting word h ≡ [] → RowsFit s.rules h.rows
      → RowsFit s.rules (word_met s.rules names is_trailing waiting position word h).0.rows
  word_fits names true waiting position word h e fits = fits
  word_fits names false waiting position word h e fits = other_fits (subcommand_met names waiting word) waiting position word h e fits

  to_positional_fits : (o : Option Rule) (word : Text) (w : Walk) (h : Held)
      → option_map_or (λ a. positional_fault s.rules s.args_override_self a h) o (stray_fault s) ≡ [] → RowsFit s.rules h.rows
      → RowsFit s.rules (to_positional s.rules o word w h).held.rows
  to_positional_fits None word w h e fits = fits
  to_positional_fits (Some a) word w h e fits = go (is_pending a h.pending && takes_several a) (settle_fits h) e
    where
      go : (b : Bool) → (settle_fault s.rules s.args_override_self h ≡ [] → RowsFit s.rules h.rows → RowsFit s.rules (settled s.rules h).rows)
          → cond b [] (settle_fault s.rules s.args_override_self h) ≡ [] → RowsFit s.rules (cond b h (settled s.rules h)).rows
      go true settles e = fits
      go false settles e = settles e fits

  step_fits : (step : Step) (word : Text) (w : Walk) (h : Held) → step_fault s w.position h step ≡ [] → RowsFit s.rules h.rows
      → RowsFit s.rules (after_step s.rules word w h step).held.rows
  step_fits (next waiting) word w h e fits = fits
  step_fits (trailing position) word w h e fits = fits
  step_fits (subcommand name) word w h e fits = fits
  step_fits value word w h e fits = to_positional_fits (arg_by_index s.rules w.position) word w h e fits

  turn_at : (names : Names) (stopped : Option (Text × List Text)) (w : Walk) (word : Text)
      → cond (is_some stopped) [] (or_else (word_fault s names w.is_trailing w.waiting word w.held)
      (step_fault s w.position (word_met s.rules names w.is_trailing w.waiting w.position word w.held).0
      (word_met s.rules names w.is_trailing w.waiting w.position word w.held).1)) ≡ []
      → RowsFit s.rules w.held.rows → RowsFit s.rules (walked_from s.rules names stopped w word).held.rows
  turn_at names (Some p) w word e fits = fits
  turn_at names None w word e fits =
      let parts = both_none (word_fault s names w.is_trailing w.waiting word w.held) _ e in
      step_fits _ word w _ parts.1 (word_fits names w.is_trailing w.waiting w.position word w.held parts.0 fits)

  walk_fits : (names : Names) (words : List Text) (w : Walk) → walk_fault s names w words ≡ [] → RowsFit s.rules w.held.rows
      → RowsFit s.rules (fold (walked s.rules names) w words).held.rows
  unfolding walk_fault walked
  walk_fits names [] w e fits = fits
  walk_fits names (word ∷ words) w e fits =
      let parts = both_none (turn_fault s names w word) _ e in
      walk_fits names words (walked s.rules names w word) parts.1 (turn_at names w.stopped w word parts.0 fits)

  -- ---- after the walk

  default_rows_fits : (a : Rule) (vs : List Text) (rows : List Row) → IsFirst s.rules a → values_kinds a.ignore_case (parser_of_value a.parser) vs ≡ []
      → RowsFit s.rules rows → RowsFit s.rules (default_rows a.id (reading_by a) vs rows)
  default_rows_fits a [] rows is e fits = fits
  default_rows_fits a (v ∷ vs) rows is e fits = with_values_fits s.rules a _ (v ∷ vs) rows is (all_passed _ _ (v ∷ vs) e, λ lt. omega arith) fits

  default_fits : (a : Rule) (rows : List Row) → IsFirst s.rules a → default_fault rows a ≡ [] → RowsFit s.rules rows → RowsFit s.rules (with_default rows a)
  default_fits a rows is e fits = go (has_row a.id rows) a.defaults e
    where
      go : (b : Bool) (vs : List Text) → cond (b || is_empty vs) [] (or_else (request_kinds (action_of a)) (values_kinds a.ignore_case (parser_of_value a.parser) vs)) ≡ []
          → RowsFit s.rules (cond b rows (default_rows a.id (reading_by a) vs rows))
      go true vs e = fits
      go false [] e = fits
      go false (v ∷ vs) e =
          let full : is_empty (v ∷ vs) ≡ false = ne_eqb _ _ (λ z. omega (arith, z)) in
          default_rows_fits a (v ∷ vs) rows is (both_none (request_kinds (action_of a)) _ (rw full at e)).1 fits

  defaults_fit : (rules : List Rule) (rows : List Row) → AllByRecursion (IsFirst s.rules) rules → defaults_fault rows rules ≡ [] → RowsFit s.rules rows
      → RowsFit s.rules (fold with_default rows rules)
  unfolding defaults_fault
  defaults_fit [] rows is e fits = fits
  defaults_fit (a ∷ rules) rows is e fits =
      let parts = both_none (default_fault rows a) _ e in
      defaults_fit rules (with_default rows a) is.1 parts.1 (default_fits a rows is.0 parts.0 fits)

  -- what a level of the parse has
  pub level_fits : (names : Names) (words : List Text) (has : Bool) (below : Kinds) → level_fault s names nothing_held words has below ≡ []
      → RowsFit s.rules (rows_after s.rules names words)
  level_fits names words has below e =
      let none = level_parts s names words has below e in
      let end = (walk s.rules names nothing_held words).held in
      defaults_fit s.rules (settled s.rules end).rows first none.defaults (settle_fits end none.settles (walk_fits names words (walk_from nothing_held) none.turns tt))
