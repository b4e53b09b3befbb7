-- Where the words are at no fault, the subcommand that they name isn't `help`.
use Rattle.std.proofs.Common.{◌≡◌, ◌&&◌, ℕ, Bool, cond, true, false, not, List, [], ◌∷◌, Option, Some, None, is_some, refl, codes}
use Rattle.std.specs.Prelude.{⊤, IfSome}
use Rattle.std.specs.List.{fold}
use Rattle.std.specs.Str.{bytes_eq}
use Rattle.clap.specs.Lexer.{long_of, short_of}
use Rattle.clap.specs.Walk.{Held, Names, Outcome, Rule, Step, Text, Waiting, Walk, done, waits, plain, refused, idle, option, positional, next, trailing, subcommand, value}
use Rattle.clap.specs.Walk.{after_flag, after_step, arg_by_index, long_or_other, plain_word, short_or_plain, subcommand_met, subcommand_or_other, to_positional, walked, walked_from, word_met}
use Rattle.clap.specs.Simple.{Shape}
use Rattle.clap.specs.Kinds.{or_else}
use Rattle.clap.specs.Faults.{other_fault, step_fault, turn_fault, walk_fault, word_fault}
use Rattle.clap.specs.declared.error.kind.ErrorKind.TheVariants.{DisplayHelp, InvalidSubcommand}
use Rattle.raysim_options.proofs.Rows.{both_none}

-- the walk stopped at no call for help
abbrev pub IsNoHelp : Text × List Text → Type 0
IsNoHelp p = bytes_eq p.0 (codes "help") ≡ false

-- the step is no call for help
abbrev IsNoHelpStep : Step → Type 0
IsNoHelpStep (subcommand name) = bytes_eq name (codes "help") ≡ false
IsNoHelpStep (next waiting) = ⊤
IsNoHelpStep (trailing position) = ⊤
IsNoHelpStep value = ⊤

plain_step : (c : List Rule) (waiting : Waiting) (word : Text) (h : Held) → IsNoHelpStep (plain_word c waiting word h).1
plain_step c idle word h = tt
plain_step c (option id) word h = tt
plain_step c positional word h = tt

flag_step : (c : List Rule) (o : Outcome) (waiting : Waiting) (word : Text) (h : Held) → IsNoHelpStep (after_flag c waiting word h o).1
flag_step c done waiting word h = tt
flag_step c (waits id) waiting word h = tt
flag_step c plain waiting word h = plain_step c waiting word h
flag_step c refused waiting word h = plain_step c waiting word h

short_step : (c : List Rule) (o : Option Text) (waiting : Waiting) (word : Text) (h : Held) → IsNoHelpStep (short_or_plain c waiting word o h).1
short_step c None waiting word h = plain_step c waiting word h
short_step c (Some flags) waiting word h = flag_step c _ waiting word _

long_step : (c : List Rule) (o : Option (Text × Option Text)) (waiting : Waiting) (word : Text) (h : Held) → IsNoHelpStep (long_or_other c waiting word o h).1
long_step c None waiting word h = short_step c (short_of word) waiting word h
long_step c (Some p) waiting word h = flag_step c _ waiting word _

-- a call for help is a fault, where the command has it
no_help : (b disabled : Bool) → disabled ≡ false → cond (b && not disabled) (DisplayHelp ∷ InvalidSubcommand ∷ []) [] ≡ [] → b ≡ false
no_help false disabled has e = refl
no_help true true has e = cc
no_help true false has e = cc

other_step : (s : Shape) (o : Option Text) (waiting : Waiting) (position : ℕ) (word : Text) (h : Held) → s.disable_help_subcommand ≡ false → other_fault s o word h ≡ []
    → IsNoHelpStep (subcommand_or_other s.rules o waiting position word h).1
other_step s (Some name) waiting position word h has e = no_help _ _ has e
other_step s None waiting position word h has e = go (bytes_eq word (45 ∷ 45 ∷ [])) (long_step s.rules (long_of word) waiting word h)
  where
    go : (b : Bool) → IsNoHelpStep (long_or_other s.rules waiting word (long_of word) h).1
        → IsNoHelpStep (cond b (h, trailing position) (long_or_other s.rules waiting word (long_of word) h)).1
    go true later = tt
    go false later = later

word_step : (s : Shape) (names : Names) (is_trailing : Bool) (waiting : Waiting) (position : ℕ) (word : Text) (h : Held) → s.disable_help_subcommand ≡ false
    → word_fault s names is_trailing waiting word h ≡ [] → IsNoHelpStep (word_met s.rules names is_trailing waiting position word h).1
word_step s names true waiting position word h has e = tt
word_step s names false waiting position word h has e = other_step s (subcommand_met names waiting word) waiting position word h has e

positional_stop : (c : List Rule) (o : Option Rule) (word : Text) (w : Walk) (h : Held) → IfSome w.stopped IsNoHelp → IfSome (to_positional c o word w h).stopped IsNoHelp
positional_stop c None word w h so_far = so_far
positional_stop c (Some a) word w h so_far = tt

step_stop : (c : List Rule) (step : Step) (word : Text) (w : Walk) (h : Held) → IsNoHelpStep step → IfSome w.stopped IsNoHelp
    → IfSome (after_step c word w h step).stopped IsNoHelp
step_stop c (next waiting) word w h is so_far = so_far
step_stop c (trailing position) word w h is so_far = so_far
step_stop c (subcommand name) word w h is so_far = is
step_stop c value word w h is so_far = positional_stop c (arg_by_index c w.position) word w h so_far

turn_stop : (s : Shape) (names : Names) (stopped : Option (Text × List Text)) (w : Walk) (word : Text) → s.disable_help_subcommand ≡ false
    → cond (is_some stopped) [] (or_else (word_fault s names w.is_trailing w.waiting word w.held)
    (step_fault s w.position (word_met s.rules names w.is_trailing w.waiting w.position word w.held).0
    (word_met s.rules names w.is_trailing w.waiting w.position word w.held).1)) ≡ []
    → IfSome stopped IsNoHelp → IfSome w.stopped IsNoHelp → IfSome (walked_from s.rules names stopped w word).stopped IsNoHelp
turn_stop s names (Some p) w word has e before so_far = before
turn_stop s names None w word has e before so_far =
    let parts = both_none (word_fault s names w.is_trailing w.waiting word w.held) _ e in
    step_stop s.rules _ word w _ (word_step s names w.is_trailing w.waiting w.position word w.held has parts.0) so_far

pub walk_stop : (s : Shape) (names : Names) (words : List Text) (w : Walk) → s.disable_help_subcommand ≡ false → walk_fault s names w words ≡ []
    → IfSome w.stopped IsNoHelp → IfSome (fold (walked s.rules names) w words).stopped IsNoHelp
unfolding walk_fault walked
walk_stop s names [] w has e so_far = so_far
walk_stop s names (word ∷ words) w has e so_far =
    let parts = both_none (turn_fault s names w word) _ e in
    walk_stop s names words (walked s.rules names w word) has parts.1 (turn_stop s names w.stopped w word has parts.0 so_far so_far)
