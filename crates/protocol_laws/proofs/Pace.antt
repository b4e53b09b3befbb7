-- What an attempt of a legal log bore and printed begins what its task does on its answers, which are of the kinds that it asks for.
use Rattle.std.proofs.Common.{◌≡◌, ℕ, List, [], ◌∷◌, ◌++◌, ◌⊎◌, inl, inr, Some, refl, sym, ap, ◌∙◌, subst, append-nil, append_assoc}
use Rattle.std.specs.Prelude.{if◌then◌else◌}
use Rattle.std.specs.List.{flat_map}
use Rattle.std.proofs.lemmas.Option.{same_Some}
use Rattle.meaning.specs.Lists.{IsFirst}
use Rattle.meaning.specs.Values.{Named, Outcome, Val, Trapped, Birth, results_of, Id, Value}
use Rattle.meaning.specs.Syntax.{Script}
use Rattle.meaning.specs.Runs.{Run, Ends, Prints, Bears, Gets, Needs, Piece, named, behind, piece, with_print}
use Rattle.meaning.specs.Births.{Bearing, birth_at, numbered}
use Rattle.meaning.specs.Meaning.{run_birth, replay}
use Rattle.meaning.specs.Kinds.{AnswersFit, ScriptChecks}
use Rattle.meaning.proofs.BirthLaws.{at_test}
use Rattle.event_log.specs.Entries.{Attempt, Entry, In, Refused, Opened, Begun, Born, Got, Printed, Ended, Accepted, Faulted, Resolved, Released, main_attempt}
use Rattle.event_log.specs.Words.{answers_of, births, got_in, own_births, own_in, printed_by, printed_in, same_attempt}
use Rattle.event_log.specs.Rules.{Setting, Allowed, MayBear, MayGet, MayPrint, Replays, Stops}
use Rattle.event_log.specs.Legal.{LegalFrom, opening}
use Rattle.event_log.proofs.Extending.{births-more}
use Rattle.event_log.proofs.WordLaws.{same_attempt-refl, same_attempt-true, word_push}
use Rattle.holding_steps.proofs.of_meaning_laws.Good.{GoodLog}
use Rattle.holding_steps.proofs.of_meaning_laws.LogLaw.{step, good_opening}
use Rattle.protocol_legal.proofs.of_kind_laws.Numbers.{births_in, numbered_first}
use Rattle.protocol_legal.proofs.of_kind_laws.Laws.{kept_fit, typed_opening}
use Rattle.protocol_legal.proofs.of_kind_laws.Typed.{Typed, typed_step}
use Rattle.protocol_laws.specs.Pace.{IsInStep, KeepsPace}

-- ---- replays

births_grow : (n : ℕ) (run : Run) (base : Id) (answers : List Outcome) (c : Outcome) → IsFirst (piece n run base answers).births (piece n run base (answers ++ c ∷ [])).births
births_grow n (Ends d) base answers c = tt
births_grow n (Prints v next) base answers c = births_grow n next base answers c
births_grow n (Bears b m next) base answers c = (refl, births_grow n (next (named base b)) (behind base b) answers c)
births_grow n (Gets t r next) base [] c = tt
births_grow n (Gets t r next) base (Val v ∷ answers) c = births_grow n (next v) base answers c
births_grow n (Gets t r next) base (Trapped e ∷ answers) c = tt

prints_grow : (n : ℕ) (run : Run) (base : Id) (answers : List Outcome) (c : Outcome) → IsFirst (piece n run base answers).prints (piece n run base (answers ++ c ∷ [])).prints
prints_grow n (Ends d) base answers c = tt
prints_grow n (Prints v next) base answers c = (refl, prints_grow n next base answers c)
prints_grow n (Bears b m next) base answers c = prints_grow n (next (named base b)) (behind base b) answers c
prints_grow n (Gets t r next) base [] c = tt
prints_grow n (Gets t r next) base (Val v ∷ answers) c = prints_grow n (next v) base answers c
prints_grow n (Gets t r next) base (Trapped e ∷ answers) c = tt

pub none_fit : (run : Run) (base : Id) → AnswersFit run base []
none_fit (Ends c) base = tt
none_fit (Prints v next) base = none_fit next base
none_fit (Bears b m next) base = none_fit (next (named base b)) (behind base b)
none_fit (Gets t r next) base = tt

-- a piece that bears nothing is the same from any id on
same_piece : (n : ℕ) (run : Run) (base other : Id) (answers : List Outcome) → (piece n run other answers).births ≡ [] → piece n run base answers ≡ piece n run other answers
same_piece n (Ends c) base other answers h = refl
same_piece n (Prints v next) base other answers h = ap (with_print v) (same_piece n next base other answers h)
same_piece n (Bears b m next) base other answers h = absurd (cc)
same_piece n (Gets t r next) base other [] h = refl
same_piece n (Gets t r next) base other (Val v ∷ answers) h = same_piece n (next v) base other answers h
same_piece n (Gets t r next) base other (Trapped e ∷ answers) h = refl

-- ---- lists

first_itself : {X : Type 0} (xs : List X) → IsFirst xs xs
first_itself [] = tt
first_itself (x ∷ xs) = (refl, first_itself xs)

heads : {X : Type 0} (x y : X) (xs ys : List X) → x ∷ xs ≡ y ∷ ys → (x ≡ y) × (xs ≡ ys)
heads x y xs ys h = (cc, cc)

-- births numbered from an id on tell it, if there are any
numbered_same : (base other : Id) (bs cs : List Birth) → numbered base bs ≡ numbered other cs → (bs ≡ cs) × ((cs ≡ []) ⊎ (base ≡ other))
numbered_same base other [] [] h = (refl, inl refl)
numbered_same base other [] (c ∷ cs) h = absurd (cc)
numbered_same base other (b ∷ bs) [] h = absurd (cc)
numbered_same base other (b ∷ bs) (c ∷ cs) h =
    let k = heads (record { object = base; birth = b }) (record { object = other; birth = c }) (numbered (behind base b) bs) (numbered (behind other c) cs) h in
    let first : b ≡ c = ap (λ (x : Bearing). x.birth) k.0 in
    let rest : bs ≡ cs = (numbered_same (behind base b) (behind other c) bs cs k.1).0 in
    (ap (λ x. x ∷ bs) first ∙ ap (λ xs. c ∷ xs) rest, inr (ap (λ (x : Bearing). x.object) k.0))

-- births that begin others are numbered from the same id on, if there are any
numbered_begins : (base other : Id) (bs cs : List Birth) → IsFirst (numbered base bs) (numbered other cs) → IsFirst bs cs × ((bs ≡ []) ⊎ (base ≡ other))
numbered_begins base other [] cs h = (tt, inl refl)
numbered_begins base other (b ∷ bs) [] h = absurd h
numbered_begins base other (b ∷ bs) (c ∷ cs) h =
    ((ap (λ (x : Bearing). x.birth) h.0, (numbered_begins (behind base b) (behind other c) bs cs h.1).0), inr (sym (ap (λ (x : Bearing). x.object) h.0)))

-- ---- what is kept from entry to entry

record IsIdle (log : List Entry) (a : Attempt) : Type 0 where
  prints : printed_by a log ≡ []
  answers : answers_of a log ≡ []

-- an attempt printed nothing and has no answers, or it keeps pace with its task's replay, by whatever id its births are numbered
record HasPace (script : Script) (log : List Entry) (a : Attempt) : Type 0 where
  spec : Birth
  born : birth_at (births log) a.object ≡ Some spec
  in_step : (base : Id) (bs : List Birth) → own_births a log ≡ numbered base bs → IsInStep script log a spec base bs

abbrev Paces : Script → List Entry → Attempt → Type 0
Paces script log a = (IsIdle log a × (own_births a log ≡ [])) ⊎ HasPace script log a

abbrev AllPace : Script → List Entry → Type 0
AllPace script log = (a : Attempt) → Paces script log a

module _ (s : Setting) (before : List Entry) (x : Entry) (paces : AllPace s.script before) where
  abbrev script : Script
  script = s.script

  abbrev later : List Entry
  later = before ++ x ∷ []

  same_word : {X : Type 0} (f : Entry → List X) → f x ≡ [] → flat_map f later ≡ flat_map f before
  same_word f h = word_push f before x ∙ ap (λ ys. flat_map f before ++ ys) h ∙ append-nil (flat_map f before)

  -- of an attempt that the entry is not of
  module _ (a : Attempt) (own : own_in a x ≡ []) (prints : printed_in a x ≡ []) (answers : got_in a x ≡ []) where
    moved : (spec : Birth) (base : Id) (bs : List Birth) → IsInStep script before a spec base bs → IsInStep script later a spec base bs
    moved spec base bs h = record {
      births = subst (λ cs. IsFirst bs (replay script spec base cs).births) (sym (same_word (got_in a) answers)) h.births;
      prints = subst (λ cs. IsFirst (printed_by a later) (replay script spec base cs).prints) (sym (same_word (got_in a) answers)) (subst (λ vs. IsFirst vs (replay script spec base (answers_of a before)).prints) (sym (same_word (printed_in a) prints)) h.prints);
      fit = subst (AnswersFit (run_birth script spec) base) (sym (same_word (got_in a) answers)) h.fit;
    }

    stays : Paces script later a
    stays = elim (paces a) [
      | inl h ↦ inl (record { prints = same_word (printed_in a) prints ∙ h.0.prints; answers = same_word (got_in a) answers ∙ h.0.answers }, same_word (own_in a) own ∙ h.1)
      | inr h ↦ inr (record { spec = h.spec; born = births-more before (x ∷ []) a.object h.spec h.born; in_step = λ base bs e. moved h.spec base bs (h.in_step base bs (sym (same_word (own_in a) own) ∙ e)) })
    ]

  -- what was so before, of an attempt whose birth is known
  record WasInStep (a : Attempt) (spec : Birth) (base : Id) : Type 0 where
    prints : IsFirst (printed_by a before) (replay script spec base (answers_of a before)).prints
    fit : AnswersFit (run_birth script spec) base (answers_of a before)

  was : (a : Attempt) (spec : Birth) (base : Id) (bs : List Birth) → birth_at (births before) a.object ≡ Some spec → own_births a before ≡ numbered base bs → WasInStep a spec base
  was a spec base bs born own = elim (paces a) [
    | inl h ↦ record {
      prints = subst (λ vs. IsFirst vs (replay script spec base (answers_of a before)).prints) (sym h.0.prints) tt;
      fit = subst (AnswersFit (run_birth script spec) base) (sym h.0.answers) (none_fit (run_birth script spec) base);
    }
    | inr h ↦ let same : h.spec ≡ spec = same_Some h.spec spec (sym h.born ∙ born) in let k = h.in_step base bs own in
        subst (λ i. WasInStep a i base) same (record { prints = k.prints; fit = k.fit })
  ]

-- ---- the entries that an attempt's deeds are

module _ (s : Setting) (before : List Entry) (paces : AllPace s.script before) where
  born_paces : (o : Id) (a : Attempt) (b : Birth) → MayBear s before o a b → HasPace s.script (before ++ Born o a b ∷ []) a
  born_paces o a b h = record {
    spec = r.spec;
    born = births-more before (x ∷ []) a.object r.spec r.born;
    in_step = λ base bs e. from base bs (sym own_now ∙ e);
  }
    where
      r : Replays s before a h.base h.p
      r = h.replays

      x : Entry
      x = Born o a b

      item : Bearing
      item = record { object = o; birth = b }

      own_now : own_births a (before ++ x ∷ []) ≡ own_births a before ++ item ∷ []
      own_now = word_push (own_in a) before x ∙ ap (λ t. own_births a before ++ (if t then item ∷ [] else [])) (same_attempt-refl a)

      none_got : answers_of a (before ++ x ∷ []) ≡ answers_of a before
      none_got = same_word s before x paces (got_in a) refl

      none_printed : printed_by a (before ++ x ∷ []) ≡ printed_by a before
      none_printed = same_word s before x paces (printed_in a) refl

      not_empty : (xs : List Bearing) (bs : List Birth) (base : Id) → xs ++ item ∷ [] ≡ numbered base bs → bs ≡ [] → ⊥
      not_empty [] bs base e n = let k = subst (λ cs. item ∷ [] ≡ numbered base cs) n e in absurd (cc)
      not_empty (y ∷ ys) bs base e n = let k = subst (λ cs. y ∷ (ys ++ item ∷ []) ≡ numbered base cs) n e in absurd (cc)

      own_first : IsFirst (own_births a before ++ item ∷ []) (numbered h.base (replay s.script r.spec h.base (answers_of a before)).births)
      own_first = subst (λ (q : Piece). IsFirst (own_births a before ++ item ∷ []) (numbered h.base q.births)) r.replayed h.own

      at_base : (bs : List Birth) → IsFirst bs (replay s.script r.spec h.base (answers_of a before)).births → IsInStep s.script (before ++ x ∷ []) a r.spec h.base bs
      at_base bs f =
          let k = was s before x paces a r.spec h.base (births_in (own_births a before)) r.born (numbered_first (own_births a before) item h.base _ own_first).0 in
          record {
            births = subst (λ cs. IsFirst bs (replay s.script r.spec h.base cs).births) (sym none_got) f;
            prints = subst (λ cs. IsFirst (printed_by a (before ++ x ∷ [])) (replay s.script r.spec h.base cs).prints) (sym none_got) (subst (λ vs. IsFirst vs (replay s.script r.spec h.base (answers_of a before)).prints) (sym none_printed) k.prints);
            fit = subst (AnswersFit (run_birth s.script r.spec) h.base) (sym none_got) k.fit;
          }

      from : (base : Id) (bs : List Birth) → own_births a before ++ item ∷ [] ≡ numbered base bs → IsInStep s.script (before ++ x ∷ []) a r.spec base bs
      from base bs e =
          let k = numbered_begins base h.base bs (replay s.script r.spec h.base (answers_of a before)).births (subst (λ xs. IsFirst xs (numbered h.base (replay s.script r.spec h.base (answers_of a before)).births)) e own_first) in
          elim k.1 [ inl n ↦ absurd (not_empty (own_births a before) bs base e n) | inr i ↦ subst (λ j. IsInStep s.script (before ++ x ∷ []) a r.spec j bs) (sym i) (at_base bs k.0) ]

  -- where all its births are logged, the replay is the same by whatever id they are numbered
  record AllBorn (a : Attempt) (spec : Birth) (p : Piece) (base : Id) (bs : List Birth) : Type 0 where
    replayed : p ≡ replay s.script spec base (answers_of a before)
    births : bs ≡ p.births

  all_born : (a : Attempt) (spec : Birth) (p : Piece) (other base : Id) (bs : List Birth) → p ≡ replay s.script spec other (answers_of a before) → own_births a before ≡ numbered other p.births → own_births a before ≡ numbered base bs → AllBorn a spec p base bs
  all_born a spec p other base bs e own own_too =
      let k = numbered_same base other bs p.births (sym own_too ∙ own) in
      record {
        replayed = elim k.1 [
          | inl n ↦ e ∙ sym (same_piece (results_of spec) (run_birth s.script spec) base other (answers_of a before) (sym (ap (λ (q : Piece). q.births) e) ∙ n))
          | inr i ↦ e ∙ ap (λ j. replay s.script spec j (answers_of a before)) (sym i)
        ];
        births = k.0;
      }

  printed_paces : (v : Value) → MayPrint s before v → HasPace s.script (before ++ Printed v ∷ []) main_attempt
  printed_paces v h = record {
    spec = r.spec;
    born = births-more before (x ∷ []) main_attempt.object r.spec r.born;
    in_step = λ base bs e. from base bs (sym (same_word s before x paces (own_in main_attempt) refl) ∙ e);
  }
    where
      r : Replays s before main_attempt h.base h.p
      r = h.replays

      x : Entry
      x = Printed v

      printed_now : printed_by main_attempt (before ++ x ∷ []) ≡ printed_by main_attempt before ++ v ∷ []
      printed_now = word_push (printed_in main_attempt) before x ∙ ap (λ t. printed_by main_attempt before ++ (if t then v ∷ [] else [])) (same_attempt-refl main_attempt)

      none_got : answers_of main_attempt (before ++ x ∷ []) ≡ answers_of main_attempt before
      none_got = same_word s before x paces (got_in main_attempt) refl

      from : (base : Id) (bs : List Birth) → own_births main_attempt before ≡ numbered base bs → IsInStep s.script (before ++ x ∷ []) main_attempt r.spec base bs
      from base bs e =
          let k = all_born main_attempt r.spec h.p h.base base bs r.replayed h.own e in
          let w = was s before x paces main_attempt r.spec base bs r.born e in
          record {
            births = subst (λ cs. IsFirst bs (replay s.script r.spec base cs).births) (sym none_got) (subst (λ (q : Piece). IsFirst bs q.births) k.replayed (subst (λ cs. IsFirst cs h.p.births) (sym k.births) (first_itself h.p.births)));
            prints = subst (λ cs. IsFirst (printed_by main_attempt (before ++ x ∷ [])) (replay s.script r.spec base cs).prints) (sym none_got)
                (subst (λ vs. IsFirst vs (replay s.script r.spec base (answers_of main_attempt before)).prints) (sym printed_now) (subst (λ (q : Piece). IsFirst (printed_by main_attempt before ++ v ∷ []) q.prints) k.replayed h.prints));
            fit = subst (AnswersFit (run_birth s.script r.spec) base) (sym none_got) w.fit;
          }

  got_paces : ScriptChecks s.script s.script → GoodLog s.script before → Typed s.script (births before) → (a : Attempt) (y : Id) (c : Outcome) → MayGet s before a y c → HasPace s.script (before ++ Got a y c ∷ []) a
  got_paces checks good typed a y c h = record {
    spec = r.spec;
    born = births-more before (x ∷ []) a.object r.spec r.born;
    in_step = λ base bs e. from base bs (sym (same_word s before x paces (own_in a) refl) ∙ e);
  }
    where
      r : Replays s before a h.needs.base h.needs.p
      r = h.needs.replays

      p : Piece
      p = h.needs.p

      x : Entry
      x = Got a y c

      got_now : answers_of a (before ++ x ∷ []) ≡ answers_of a before ++ c ∷ []
      got_now = word_push (got_in a) before x ∙ ap (λ t. answers_of a before ++ (if t then c ∷ [] else [])) (same_attempt-refl a)

      none_printed : printed_by a (before ++ x ∷ []) ≡ printed_by a before
      none_printed = same_word s before x paces (printed_in a) refl

      from : (base : Id) (bs : List Birth) → own_births a before ≡ numbered base bs → IsInStep s.script (before ++ x ∷ []) a r.spec base bs
      from base bs e =
          let run = run_birth s.script r.spec in
          let answers = answers_of a before in
          let k = all_born a r.spec p h.needs.base base bs r.replayed h.needs.own e in
          let n = results_of r.spec in
          let now : piece n run base answers ≡ p = sym k.replayed in
          let stops : Stops s before a (Needs (Named y)) = record {
            base = base;
            p = p;
            replays = record { spec = r.spec; born = r.born; ended = r.ended; faulted = r.faulted; replayed = k.replayed };
            own = e ∙ ap (numbered base) k.births;
            prints = h.needs.prints;
            stopped = h.needs.stopped;
          } in
          record {
            births = subst (λ cs. IsFirst bs (replay s.script r.spec base cs).births) (sym got_now) (subst (λ cs. IsFirst cs (piece n run base (answers ++ c ∷ [])).births) (ap (λ (q : Piece). q.births) now ∙ sym k.births) (births_grow n run base answers c));
            prints = subst (λ cs. IsFirst (printed_by a (before ++ x ∷ [])) (replay s.script r.spec base cs).prints) (sym got_now)
                (subst (λ vs. IsFirst vs (piece n run base (answers ++ c ∷ [])).prints) (ap (λ (q : Piece). q.prints) now ∙ sym h.needs.prints ∙ sym none_printed) (prints_grow n run base answers c));
            fit = subst (AnswersFit run base) (sym got_now) (kept_fit s before checks good typed a y c stops h.content);
          }

  -- ---- one entry more

  pace_step : ScriptChecks s.script s.script → GoodLog s.script before → Typed s.script (births before) → (x : Entry) → Allowed s before x → AllPace s.script (before ++ x ∷ [])
  pace_step checks good typed (Born o b birth) h a = at_test (λ t. same_attempt b a ≡ t → Paces s.script (before ++ Born o b birth ∷ []) a) (same_attempt b a)
      (λ t e. inr (subst (HasPace s.script (before ++ Born o b birth ∷ [])) (same_attempt-true b a e) (born_paces o b birth h)))
      (λ t e. stays s before (Born o b birth) paces a (ap (λ t. if t then record { object = o; birth = birth } ∷ [] else []) e) refl refl) refl
  pace_step checks good typed (Printed v) h a = at_test (λ t. same_attempt main_attempt a ≡ t → Paces s.script (before ++ Printed v ∷ []) a) (same_attempt main_attempt a)
      (λ t e. inr (subst (HasPace s.script (before ++ Printed v ∷ [])) (same_attempt-true main_attempt a e) (printed_paces v h)))
      (λ t e. stays s before (Printed v) paces a refl (ap (λ t. if t then v ∷ [] else []) e) refl) refl
  pace_step checks good typed (Got b y c) h a = at_test (λ t. same_attempt b a ≡ t → Paces s.script (before ++ Got b y c ∷ []) a) (same_attempt b a)
      (λ t e. inr (subst (HasPace s.script (before ++ Got b y c ∷ [])) (same_attempt-true b a e) (got_paces checks good typed b y c h)))
      (λ t e. stays s before (Got b y c) paces a refl refl (ap (λ t. if t then c ∷ [] else []) e)) refl
  pace_step checks good typed (In e seat) h a = stays s before (In e seat) paces a refl refl refl
  pace_step checks good typed (Refused code) h a = stays s before (Refused code) paces a refl refl refl
  pace_step checks good typed (Opened w n) h a = stays s before (Opened w n) paces a refl refl refl
  pace_step checks good typed (Begun b w) h a = stays s before (Begun b w) paces a refl refl refl
  pace_step checks good typed (Ended b c) h a = stays s before (Ended b c) paces a refl refl refl
  pace_step checks good typed (Accepted b) h a = stays s before (Accepted b) paces a refl refl refl
  pace_step checks good typed (Faulted b y f) h a = stays s before (Faulted b y f) paces a refl refl refl
  pace_step checks good typed (Resolved o f) h a = stays s before (Resolved o f) paces a refl refl refl
  pace_step checks good typed (Released o) h a = stays s before (Released o) paces a refl refl refl

pace_steps : (s : Setting) → ScriptChecks s.script s.script → (before es : List Entry) → GoodLog s.script before → Typed s.script (births before) → AllPace s.script before → LegalFrom s before es → AllPace s.script (before ++ es)
pace_steps s checks before [] g t p h = subst (AllPace s.script) (sym (append-nil before)) p
pace_steps s checks before (x ∷ es) g t p h =
    subst (AllPace s.script) (append_assoc before (x ∷ []) es)
    (pace_steps s checks (before ++ x ∷ []) es (step s before x g h.0) (typed_step s checks before g t x h.0) (pace_step s before p checks g t x h.0) h.2)

pub attempts_keep_pace : KeepsPace
attempts_keep_pace s log checks main h a spec base bs born own = elim all [
  | inl k ↦ record {
    births = subst (λ cs. IsFirst cs (replay s.script spec base (answers_of a log)).births) (sym (empty bs (sym own ∙ k.1))) tt;
    prints = subst (λ vs. IsFirst vs (replay s.script spec base (answers_of a log)).prints) (sym k.0.prints) tt;
    fit = subst (AnswersFit (run_birth s.script spec) base) (sym k.0.answers) (none_fit (run_birth s.script spec) base);
  }
  | inr k ↦ subst (λ i. IsInStep s.script log a i base bs) (same_Some k.spec spec (sym k.born ∙ born)) (k.in_step base bs own)
]
  where
    idle : AllPace s.script opening
    idle b = inl (record { prints = refl; answers = refl }, refl)

    empty : (cs : List Birth) → numbered base cs ≡ [] → cs ≡ []
    empty [] e = refl
    empty (c ∷ cs) e = absurd (cc)

    all : Paces s.script log a
    all = subst (λ l. AllPace s.script l) (sym h.begins) (pace_steps s checks opening h.rest (good_opening s.script) (typed_opening s.script main) idle h.each) a
