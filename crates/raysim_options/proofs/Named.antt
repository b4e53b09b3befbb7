-- What the subcommand has that words without a fault name.
use Rattle.std.proofs.Common.{◌≡◌, ◌∙◌, ◌<◌, ◌&&◌, ◌||◌, ℕ, Bool, cond, true, false, not, refl, sym, ap, subst, arith, List, [], ◌∷◌, ◌++◌, length, Option, Some, None, is_some, option_map, true≢false, unwrap_or, ltb-true}
use Rattle.std.specs.Prelude.{IfSome, codes, nat_lt, pos, slice_get, option_and_then}
use Rattle.std.specs.List.{AllByRecursion, find, list_all, list_any}
use Rattle.std.specs.Option.{option_map_or}
use Rattle.std.specs.Str.{bytes_eq}
use Rattle.std.proofs.lemmas.Slice.Eq.{bytes_eq-Decides}
use Rattle.clap.specs.Facts.{explicit_source, parser_of_value}
use Rattle.clap.specs.Walk.{Row, Rule, Text, answers_to, arg_by_id, is_empty, nothing_held, row_text, rows_after, walk, walk_from, reading_by}
use Rattle.clap.specs.Simple.{App, Shape, argument_words, built, entered, filled_from, help_rule, label_of, names_of, rows_at, subcommand_of}
use Rattle.clap.specs.Takes.{is_given, value_passes}
use Rattle.clap.specs.Values.{IsSignedIn, read_as, reading_of}
use Rattle.clap.specs.Lexer.{without_minus}
use Rattle.clap.specs.ValueTests.{accepts}
use Rattle.clap.specs.declared.builder.value_parser.Reading.{Reading}
use Rattle.clap.specs.Kinds.{check_kinds}
use Rattle.clap.specs.Faults.{built_fault, check_fault, entered_fault, fault_of, level_fault}
use Rattle.clap.specs.declared.builder.value_parser.ValueParser.{ValueParser}
use Rattle.clap.specs.declared.builder.value_parser.ValueParser.TheVariants as vp
use Rattle.clap.proofs.ValueTestLemmas.{accepts-Accepts}
use Rattle.clap.proofs.SimpleLemmas.{is_nil}
use Rattle.clap.proofs.WalkLemmas.{both}
use Rattle.clap.proofs.OnLiterals.{clap_on_literals}
use Rattle.raysim_options.specs.App.{explain_app, explained_app, export_app, faults_app, log_app, migrate_app, raysim_app, run_app, sim_app, state_app, why_app}
use Rattle.raysim_options.specs.Meets.{HasText, MeetsAll, MeetsNeed, MeetsNamed, MeetsOne, MeetsParser}
use Rattle.raysim_options.proofs.Faultless.{level_fits, level_parts}
use Rattle.raysim_options.proofs.Rows.{IsFirst, Passes, RowFits, RowsFit, least, unsome}
use Rattle.raysim_options.proofs.Stops.{IsNoHelp, walk_stop}

-- ---- what is tested of the rules

abbrev are_distinct : List Rule → Bool
are_distinct [] = true
are_distinct (a ∷ rules) = list_all (λ b. not (bytes_eq a.id b.id)) rules && are_distinct rules

-- what has to be there has a value
abbrev is_had : Rule → Bool
is_had a = not a.required || nat_lt 0 (least a)

-- the rules have ids of their own, and the subcommand has one name
abbrev is_sound : Shape → Bool
is_sound s = are_distinct s.rules && (list_all is_had s.rules && is_empty s.aliases)

is_not : (b : Bool) → not b ≡ true → b ≡ false
is_not true e = cc
is_not false e = refl

neither : (a b : Bool) → (a || b) ≡ false → (a ≡ false) × (b ≡ false)
neither true b e = absurd (true≢false e)
neither false b e = (refl, e)

later : (a : Rule) (c rest : List Rule) → list_all (λ b. not (bytes_eq a.id b.id)) rest ≡ true → AllByRecursion (IsFirst c) rest → AllByRecursion (IsFirst (a ∷ c)) rest
later a c [] apart h = tt
later a c (b ∷ rest) apart h =
    let parts = both (not (bytes_eq a.id b.id)) _ apart in
    let other : bytes_eq a.id b.id ≡ false = is_not _ parts.0 in
    let here : IsFirst (a ∷ c) b = rw other h.0 in
    (here, later a c rest parts.1 h.1)

firsts : (c : List Rule) → are_distinct c ≡ true → AllByRecursion (IsFirst c) c
firsts [] e = tt
firsts (a ∷ c) e =
    let parts = both (list_all (λ b. not (bytes_eq a.id b.id)) c) _ e in
    let same : bytes_eq a.id a.id ≡ true = (bytes_eq-Decides a.id a.id).1 refl in
    let here : IsFirst (a ∷ c) a = rw same refl in
    (here, later a c c parts.0 (firsts c parts.1))

-- ---- what the rows have for a rule

row_found : (c : List Rule) (id : Text) (rows : List Row) → RowsFit c rows → IfSome (find (λ r. bytes_eq r.id id) rows) (λ r. (r.id ≡ id) × RowFits c r)
row_found c id [] h = tt
row_found c id (r ∷ rows) h = go (bytes_eq r.id id) refl (find (λ q. bytes_eq q.id id) rows) (row_found c id rows h.1)
  where
    go : (b : Bool) → bytes_eq r.id id ≡ b → (o : Option Row) → IfSome o (λ q. (q.id ≡ id) × RowFits c q) → IfSome (cond b (Some r) o) (λ q. (q.id ≡ id) × RowFits c q)
    go true e o below = ((bytes_eq-Decides r.id id).0 e, h.0)
    go false e o below = below

row_fits : (c : List Rule) (a : Rule) (o : Option Row) → IsFirst c a → IfSome o (λ r. (r.id ≡ a.id) × RowFits c r)
    → IfSome o (λ r. Passes a r.values × (r.reading ≡ reading_by a))
row_fits c a None first h = tt
row_fits c a (Some r) first h = h.1 a (ap (arg_by_id c) h.0 ∙ first)

first_there : (vs : List Text) → 0 < length vs → is_some (slice_get vs 0) ≡ true
first_there [] lt = absurd (omega arith)
first_there (v ∷ vs) lt = refl

text_there : (a : Rule) (o : Option Row) → IfSome o (λ r. Passes a r.values × (r.reading ≡ reading_by a)) → 0 < least a
    → option_map_or (λ r. explicit_source r.source) o false ≡ true → is_some (option_and_then (λ r. slice_get r.values 0) o) ≡ true
text_there a None h some given = absurd (true≢false (sym given))
text_there a (Some r) h some given = first_there r.values (h.0.1 some)

number_read : (a : Rule) (low high : ℕ) (v t : Text) → Some (vp.Signed (pos low) (pos high)) ≡ a.parser → value_passes a v ≡ true
    → Some (read_as (reading_by a) v) ≡ Some t → (u : Text) × (t ≡ without_minus u) × IsSignedIn (pos low) (pos high) u
number_read a low high v t parser pass is =
    let same : read_as (reading_by a) v ≡ without_minus v = ap (λ p. read_as (reading_of (parser_of_value p)) v) (sym parser) in
    let taken : accepts a.ignore_case (vp.Signed (pos low) (pos high)) v ≡ true = ap (λ p. accepts a.ignore_case (parser_of_value p) v) parser ∙ pass in
    (v, sym (unsome _ _ is) ∙ same, accepts-Accepts a.ignore_case (vp.Signed (pos low) (pos high)) v taken)

number_at : (a : Rule) (low high : ℕ) (how : Reading) (vs : List Text) (t : Text) → Some (vp.Signed (pos low) (pos high)) ≡ a.parser → list_all (value_passes a) vs ≡ true
    → how ≡ reading_by a → option_map (read_as how) (slice_get vs 0) ≡ Some t → (u : Text) × (t ≡ without_minus u) × IsSignedIn (pos low) (pos high) u
number_at a low high how [] t parser pass reads is = cc
number_at a low high how (v ∷ vs) t parser pass reads is =
    number_read a low high v t parser (both (value_passes a v) _ pass).0 (ap (λ h. Some (read_as h v)) (sym reads) ∙ is)

number_there : (a : Rule) (low high : ℕ) (o : Option Row) (t : Text) → Some (vp.Signed (pos low) (pos high)) ≡ a.parser
    → IfSome o (λ r. Passes a r.values × (r.reading ≡ reading_by a)) → option_and_then row_text o ≡ Some t
    → (u : Text) × (t ≡ without_minus u) × IsSignedIn (pos low) (pos high) u
number_there a low high None t parser h is = cc
number_there a low high (Some r) t parser h is = number_at a low high r.reading r.values t parser h.0.0 h.1 is

meets_parser : (c : List Rule) (a : Rule) (rows : List Row) (p : Option ValueParser) → p ≡ a.parser
    → IfSome (find (λ r. bytes_eq r.id a.id) rows) (λ r. Passes a r.values × (r.reading ≡ reading_by a)) → MeetsParser p a.id rows
meets_parser c a rows (Some (vp.Signed (pos low) (pos high))) is h = λ t e. number_there a low high _ t is h e
meets_parser c a rows _ is h = tt

meets_need : (b : Bool) (id : Text) (rows : List Row) → (b ≡ true → HasText rows id) → MeetsNeed b id rows
meets_need true id rows h = h refl
meets_need false id rows h = tt

is_there : (b given : Bool) → (b && not given) ≡ false → b ≡ true → given ≡ true
is_there b true e t = refl
is_there true false e t = absurd (true≢false e)
is_there false false e t = absurd (true≢false (sym t))

is_some_then : (b some : Bool) → (not b || some) ≡ true → b ≡ true → some ≡ true
is_some_then true some e t = e
is_some_then false some e t = absurd (true≢false (sym t))

meets_all : (c rules : List Rule) (rows : List Row) → AllByRecursion (IsFirst c) rules → list_all is_had rules ≡ true → RowsFit c rows
    → list_any (λ a. a.required && not (is_given a.id rows)) rules ≡ false → MeetsAll rules rows
meets_all c [] rows first had fits given = tt
meets_all c (a ∷ rules) rows first had fits given =
    let haves = both (is_had a) _ had in
    let here = neither (a.required && not (is_given a.id rows)) _ given in
    let row = row_fits c a _ first.0 (row_found c a.id rows fits) in (
      meets_need a.required a.id rows (λ t. text_there a _ row (ltb-true _ _ (is_some_then a.required _ haves.0 t)) (is_there a.required _ here.0 t)),
      meets_parser c a rows a.parser refl row,
      meets_all c rules rows first.1 haves.1 fits here.1,
    )

-- ---- the last checks of a level

no_check : (help sub arg : Bool) → check_kinds help sub arg ≡ [] → (sub ≡ false) × (arg ≡ false)
no_check true sub arg e = cc
no_check false true arg e = cc
no_check false false true e = cc
no_check false false false e = (refl, refl)

checked : (s : Shape) (rows : List Row) (has : Bool) → check_fault s rows has ≡ []
    → ((not has && s.subcommand_required) ≡ false) × ((not (s.subcommand_negates_reqs && has) && list_any (λ a. a.required && not (is_given a.id rows)) s.rules) ≡ false)
checked s rows has e = no_check
    (not has && (s.arg_required_else_help && not (list_any (λ r. explicit_source r.source) rows)))
    (not has && s.subcommand_required)
    (not (s.subcommand_negates_reqs && has) && list_any (λ a. a.required && not (is_given a.id rows)) s.rules) e

of_no_subcommand : (b missing : Bool) → (not (b && false) && missing) ≡ false → missing ≡ false
of_no_subcommand true missing e = e
of_no_subcommand false missing e = e

sub_meets : (s : Shape) (words : List Text) → is_sound s ≡ true → level_fault s [] nothing_held words false [] ≡ [] → MeetsAll s.rules (rows_after s.rules [] words)
sub_meets s words sound e =
    let parts = both (are_distinct s.rules) _ sound in
    let haves = both (list_all is_had s.rules) _ parts.1 in
    let first = firsts s.rules parts.0 in
    let rows = rows_after s.rules [] words in
    let missing = list_any (λ a. a.required && not (is_given a.id rows)) s.rules in
    let none = (level_parts s [] words false [] e).checks in
    meets_all s.rules s.rules rows first haves.0 (level_fits s first [] words false [] e) (of_no_subcommand s.subcommand_negates_reqs missing (checked s rows false none).1)

-- ---- the subcommand

one_name : (s : Shape) (word : Text) → is_empty s.aliases ≡ true → answers_to word (label_of s) ≡ bytes_eq s.name word
one_name s word e = ap (λ xs. bytes_eq s.name word || list_any (λ alias. bytes_eq alias word) xs) (is_nil s.aliases e) ∙ or_false (bytes_eq s.name word)
  where
    or_false : (b : Bool) → (b || false) ≡ b
    or_false true = refl
    or_false false = refl

met_here : (s : Shape) (rest : List Shape) (name word : Text) (rows own : List Row) → bytes_eq s.name word ≡ true → ◌≡◌ {A = Option (Text × List Row)} (Some (s.name, own)) (Some (name, rows)) → MeetsAll s.rules own
    → MeetsOne (s ∷ rest) name rows × (name ≡ word)
met_here s rest name word rows own e is h =
    let both_same : ◌≡◌ {A = Text × List Row} (s.name, own) (name, rows) = unsome _ _ is in
    let name_is : s.name ≡ name = ap (λ p. p.0) both_same in
    let same : bytes_eq s.name name ≡ true = (bytes_eq-Decides s.name name).1 name_is in
    let meets : MeetsAll s.rules rows = subst (MeetsAll s.rules) (ap (λ p. p.1) both_same) h in
    let one : MeetsOne (s ∷ rest) name rows = rw same meets in
    (one, sym name_is ∙ (bytes_eq-Decides s.name word).0 e)

met_later : (s : Shape) (rest : List Shape) (name word : Text) (rows : List Row) → bytes_eq s.name word ≡ false → MeetsOne rest name rows × (name ≡ word)
    → MeetsOne (s ∷ rest) name rows × (name ≡ word)
met_later s rest name word rows e h =
    let other : bytes_eq s.name name ≡ false = ap (bytes_eq s.name) h.1 ∙ e in
    let one : MeetsOne (s ∷ rest) name rows = rw other h.0 in
    (one, h.1)

meets_one : (subs : List Shape) (word : Text) (words : List Text) (name : Text) (rows : List Row) → list_all is_sound subs ≡ true
    → option_map_or (λ s. level_fault s [] nothing_held words false []) (find (λ s. answers_to word (label_of s)) subs) [] ≡ []
    → option_map (λ s. rows_at s words) (find (λ s. answers_to word (label_of s)) subs) ≡ Some (name, rows) → MeetsOne subs name rows × (name ≡ word)
meets_one [] word words name rows sound e is = cc
meets_one (s ∷ subs) word words name rows sound e is =
    go (answers_to word (label_of s)) (sym (one_name s word (both _ _ (both _ _ here.0).1).1)) e is (meets_one subs word words name rows here.1)
  where
    here : (is_sound s ≡ true) × (list_all is_sound subs ≡ true)
    here = both _ _ sound

    go : (b : Bool) → bytes_eq s.name word ≡ b
        → option_map_or (λ t. level_fault t [] nothing_held words false []) (cond b (Some s) (find (λ t. answers_to word (label_of t)) subs)) [] ≡ []
        → option_map (λ t. rows_at t words) (cond b (Some s) (find (λ t. answers_to word (label_of t)) subs)) ≡ Some (name, rows)
        → (option_map_or (λ t. level_fault t [] nothing_held words false []) (find (λ t. answers_to word (label_of t)) subs) [] ≡ []
        → option_map (λ t. rows_at t words) (find (λ t. answers_to word (label_of t)) subs) ≡ Some (name, rows) → MeetsOne subs name rows × (name ≡ word))
        → MeetsOne (s ∷ subs) name rows × (name ≡ word)
    go true same none gives below = met_here s subs name word rows (rows_after s.rules [] words) same gives (sub_meets s words here.0 none)
    go false other none gives below = met_later s subs name word rows other (below none gives)

entered_meets : (a : App) (stop : Option (Text × List Text)) (name : Text) (rows : List Row) → list_all is_sound a.subs ≡ true → IfSome stop IsNoHelp
    → entered_fault a stop ≡ [] → entered a stop ≡ Some (name, rows) → MeetsOne a.subs name rows × (bytes_eq name (codes "help") ≡ false)
entered_meets a None name rows sound other e is = cc
entered_meets a (Some p) name rows sound other e is =
    let met = meets_one a.subs p.0 p.1 name rows sound e is in
    (met.0, ap (λ n. bytes_eq n (codes "help")) met.1 ∙ other)

wanted : (has : Bool) → (not has && true) ≡ false → has ≡ true
wanted true e = refl
wanted false e = cc

-- the words name a subcommand, where one is wanted
built_has : (a : App) (words : List Text) → a.top.subcommand_required ≡ true → built_fault a nothing_held words ≡ []
    → is_some (entered a (walk a.top.rules (names_of a) nothing_held words).stopped) ≡ true
built_has a words required e =
    let stop = (walk a.top.rules (names_of a) nothing_held words).stopped in
    let has = is_some (entered a stop) in
    let none = level_parts a.top (names_of a) words has (entered_fault a stop) e in
    wanted has (ap (λ b. not has && b) (sym required) ∙ (checked a.top (rows_after a.top.rules (names_of a) words) has none.checks).0)

-- and meet its rules
built_meets : (a : App) (words : List Text) (name : Text) (rows : List Row) → list_all is_sound a.subs ≡ true → a.top.disable_help_subcommand ≡ false
    → built_fault a nothing_held words ≡ [] → entered a (walk a.top.rules (names_of a) nothing_held words).stopped ≡ Some (name, rows)
    → MeetsOne a.subs name rows × (bytes_eq name (codes "help") ≡ false)
built_meets a words name rows sound has e is =
    let stop = (walk a.top.rules (names_of a) nothing_held words).stopped in
    let none = level_parts a.top (names_of a) words (is_some (entered a stop)) (entered_fault a stop) e in
    entered_meets a stop name rows sound (walk_stop a.top (names_of a) words (walk_from nothing_held) has none.turns tt) none.entered is

-- ---- raysim

sound : list_all is_sound (built raysim_app).subs ≡ true
unfolding clap_on_literals
sound = refl

has_help : (built raysim_app).top.disable_help_subcommand ≡ false
has_help = refl

is_wanted : (built raysim_app).top.subcommand_required ≡ true
is_wanted = refl

-- what the words are that a rule meets, building leaves as it was
unfilled_parser : (p : Option ValueParser) (q : ValueParser) (id : Text) (rows : List Row) → MeetsParser (Some (unwrap_or p q)) id rows → MeetsParser p id rows
unfilled_parser None q id rows h = tt
unfilled_parser (Some p) q id rows h = h

unfilled : (rules more : List Rule) (i : ℕ) (rows : List Row) → MeetsAll (filled_from i (rules ++ more)) rows → MeetsAll rules rows
unfilled [] more i rows h = tt
unfilled (a ∷ rules) more i rows h = (h.0, unfilled_parser a.parser _ a.id rows h.1, unfilled rules more _ rows h.2)

named_as : (b : Bool) (A B C D : Type 0) → (A → B) → (C → D) → MeetsNamed b A C → MeetsNamed b B D
named_as true A B C D f g h = f h
named_as false A B C D f g h = g h

not_named : (b : Bool) (A : Type 0) → b ≡ false → MeetsNamed b A ⊥ → ⊥
not_named true A e h = absurd (true≢false e)
not_named false A e h = h

other_way : (x y : Text) → bytes_eq x y ≡ false → bytes_eq y x ≡ false
other_way x y e = go (bytes_eq y x) refl
  where
    go : (b : Bool) → bytes_eq y x ≡ b → b ≡ false
    go false t = refl
    go true t = absurd (true≢false (sym ((bytes_eq-Decides x y).1 (sym ((bytes_eq-Decides y x).0 t))) ∙ e))

-- the words meet the rules of the subcommand of this name, as they stand
kept : (name : Text) (rows : List Row) → bytes_eq name (codes "help") ≡ false → MeetsOne (built raysim_app).subs name rows → MeetsOne raysim_app.subs name rows
kept name rows other h =
    named_as (bytes_eq (codes "check") name) _ _ _ _ (unfilled (explained_app (codes "check")).top.rules (help_rule ∷ []) 1 rows)
    (named_as (bytes_eq (codes "serial") name) _ _ _ _ (unfilled (explained_app (codes "serial")).top.rules (help_rule ∷ []) 1 rows)
    (named_as (bytes_eq (codes "sim") name) _ _ _ _ (unfilled sim_app.top.rules (help_rule ∷ []) 1 rows)
    (named_as (bytes_eq (codes "run") name) _ _ _ _ (unfilled run_app.top.rules (help_rule ∷ []) 1 rows)
    (named_as (bytes_eq (codes "log") name) _ _ _ _ (unfilled log_app.top.rules (help_rule ∷ []) 1 rows)
    (named_as (bytes_eq (codes "why") name) _ _ _ _ (unfilled why_app.top.rules (help_rule ∷ []) 1 rows)
    (named_as (bytes_eq (codes "faults") name) _ _ _ _ (unfilled faults_app.top.rules (help_rule ∷ []) 1 rows)
    (named_as (bytes_eq (codes "migrate") name) _ _ _ _ (unfilled migrate_app.top.rules (help_rule ∷ []) 1 rows)
    (named_as (bytes_eq (codes "explain") name) _ _ _ _ (unfilled explain_app.top.rules (help_rule ∷ []) 1 rows)
    (named_as (bytes_eq (codes "export") name) _ _ _ _ (unfilled export_app.top.rules (help_rule ∷ []) 1 rows)
    (named_as (bytes_eq (codes "state") name) _ _ _ _ (unfilled state_app.top.rules (help_rule ∷ []) 1 rows)
    (not_named (bytes_eq (codes "help") name) _ (other_way name (codes "help") other)))))))))))) h

-- words without a fault name a subcommand
pub names_one : (words : List Text) → fault_of raysim_app words ≡ [] → is_some (subcommand_of raysim_app words) ≡ true
names_one words e = built_has (built raysim_app) (argument_words raysim_app words) is_wanted e

-- and meet its rules
pub meets_named : (words : List Text) (name : Text) (rows : List Row) → fault_of raysim_app words ≡ [] → subcommand_of raysim_app words ≡ Some (name, rows)
    → MeetsOne raysim_app.subs name rows
meets_named words name rows e is =
    let met = built_meets (built raysim_app) (argument_words raysim_app words) name rows sound has_help e is in
    kept name rows met.1 met.0
