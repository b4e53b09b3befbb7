-- A text whose lines stand in the lines of their numbers says them, in lines of these numbers.
use Rattle.std.proofs.Common.{◌≡◌, ◌<◌, ℕ, zero, suc, ◌+◌, ◌-◌, List, [], ◌∷◌, ◌++◌, length, refl, sym, ap, ◌∙◌, subst, arith}
use Rattle.std.specs.Prelude.{replicate}
use Rattle.std.specs.List.{flat_map}
use Rattle.std.proofs.lemmas.List.{append_assoc}
use Rattle.event_files.specs.Files.{Row, Passed, Said, AreRows, IsFile, all_said, rows_text}
use Rattle.event_files.specs.Numbering.{numbers_said}
use Rattle.event_files.specs.Plans.{IsPlanLine, plan_line_text}
use Rattle.event_files.specs.declared.plan.PlanLine.{PlanLine}
use Rattle.kept_lists.specs.Texts.{feeds, numbered_text, plan_line}

-- empty lines
abbrev blank : {A : Type 0} → ℕ → List (Row A)
blank zero = []
blank (suc n) = Passed [] ∷ blank n

abbrev pub rows_at : {A : Type 0} → ℕ → List A → List ℕ → List (Row A)
rows_at last [] numbers = []
rows_at last (a ∷ says) [] = []
rows_at last (a ∷ says) (number ∷ numbers) = blank (number - last - 1) ++ (Said a ∷ rows_at number says numbers)

-- ---- how they are written

blank_text : {A : Type 0} (text : A → List ℕ) (n : ℕ) (rows : List (Row A)) → rows_text text (blank n ++ rows) ≡ replicate n 10 ++ rows_text text rows
blank_text text zero rows = refl
blank_text text (suc n) rows = ap (λ z. 10 ∷ z) (blank_text text n rows)

pub text_at : {A : Type 0} (text : A → List ℕ) (last : ℕ) (says : List A) (numbers : List ℕ) →
    rows_text text (rows_at last says numbers) ≡ numbered_text text last says numbers
text_at text last [] numbers = refl
text_at text last (a ∷ says) [] = refl
text_at text last (a ∷ says) (number ∷ numbers) =
    blank_text text (number - last - 1) (Said a ∷ rows_at number says numbers)
    ∙ ap (λ z. feeds last number ++ (text a ++ 10 ∷ z)) (text_at text number says numbers)

-- ---- what they say

-- each of them is such a thing
abbrev pub AllAre : {A : Type 0} → (A → Type 0) → List A → Type 0
AllAre is [] = Unit {0}
AllAre is (a ∷ says) = is a × AllAre is says

pub all_are : {A : Type 0} (is : A → Type 0) (rows : List (Row A)) → AreRows is rows → AllAre is (all_said rows)
all_are is [] h = tt
all_are is (Passed bytes ∷ rows) h = all_are is rows h.1
all_are is (Said a ∷ rows) h = (h.0, all_are is rows h.1)

pub first_are : {A : Type 0} (is : A → Type 0) (says more : List A) → AllAre is (says ++ more) → AllAre is says
first_are is [] more h = tt
first_are is (a ∷ says) more h = (h.0, first_are is says more h.1)

blank_are : {A : Type 0} (is : A → Type 0) (n : ℕ) (rows : List (Row A)) → AreRows is rows → AreRows is (blank n ++ rows)
blank_are is zero rows h = h
blank_are is (suc n) rows h = ((refl, refl), blank_are is n rows h)

pub are_at : {A : Type 0} (is : A → Type 0) (last : ℕ) (says : List A) (numbers : List ℕ) → AllAre is says → AreRows is (rows_at last says numbers)
are_at is last [] numbers h = tt
are_at is last (a ∷ says) [] h = tt
are_at is last (a ∷ says) (number ∷ numbers) h =
    blank_are is (number - last - 1) (Said a ∷ rows_at number says numbers) (h.0, are_at is number says numbers h.1)

blank_said : {A : Type 0} (n : ℕ) (rows : List (Row A)) → all_said (blank n ++ rows) ≡ all_said rows
blank_said zero rows = refl
blank_said (suc n) rows = blank_said n rows

suc_same : (m n : ℕ) → suc m ≡ suc n → m ≡ n
suc_same m n e = omega (arith, e)

pub said_at : {A : Type 0} (last : ℕ) (says : List A) (numbers : List ℕ) → length numbers ≡ length says → all_said (rows_at last says numbers) ≡ says
said_at last [] numbers h = refl
said_at last (a ∷ says) [] h = absurd (omega (arith, h))
said_at last (a ∷ says) (number ∷ numbers) h =
    blank_said (number - last - 1) (Said a ∷ rows_at number says numbers)
    ∙ ap (λ z. a ∷ z) (said_at number says numbers (suc_same (length numbers) (length says) h))

-- ---- their numbers

-- each is greater than the one before, the first than `last`
abbrev pub Rise : ℕ → List ℕ → Type 0
Rise last [] = Unit {0}
Rise last (number ∷ numbers) = (last < number) × Rise number numbers

pub said_rise : {A : Type 0} (last number : ℕ) (rows : List (Row A)) → last < number → Rise last (numbers_said number rows)
said_rise last number [] h = tt
said_rise last number (Passed bytes ∷ rows) h = said_rise last (number + 1) rows (omega (arith, h))
said_rise last number (Said a ∷ rows) h = (h, said_rise number (number + 1) rows (omega arith))

pub first_rise : (last : ℕ) (numbers more : List ℕ) → Rise last (numbers ++ more) → Rise last numbers
first_rise last [] more h = tt
first_rise last (number ∷ numbers) more h = (h.0, first_rise number numbers more h.1)

blank_numbers : {A : Type 0} (n from : ℕ) (rows : List (Row A)) → numbers_said from (blank n ++ rows) ≡ numbers_said (from + n) rows
blank_numbers zero from rows = ap (λ m. numbers_said m rows) (omega arith)
blank_numbers (suc n) from rows = blank_numbers n (from + 1) rows ∙ ap (λ m. numbers_said m rows) (omega arith)

behind_blank : (last from number : ℕ) → from ≡ last + 1 → last < number → from + (number - last - 1) ≡ number
behind_blank last from number e h = omega (arith, e, h)

pub numbers_at : {A : Type 0} (last from : ℕ) (says : List A) (numbers : List ℕ) → from ≡ last + 1 → Rise last numbers → length numbers ≡ length says →
    numbers_said from (rows_at last says numbers) ≡ numbers
numbers_at last from [] [] e h l = refl
numbers_at last from [] (number ∷ numbers) e h l = absurd (omega (arith, l))
numbers_at last from (a ∷ says) [] e h l = absurd (omega (arith, l))
numbers_at last from (a ∷ says) (number ∷ numbers) e h l =
    blank_numbers (number - last - 1) from (Said a ∷ rows_at number says numbers)
    ∙ ap (λ m. numbers_said m (Said a ∷ rows_at number says numbers)) (behind_blank last from number e h.0)
    ∙ ap (λ z. number ∷ z) (numbers_at number (number + 1) says numbers refl h.1 (suc_same (length numbers) (length says) l))

-- ---- so the text is a file that says them

abbrev pub file_at : {A : Type 0} (is : A → Type 0) (text : A → List ℕ) (last : ℕ) (says : List A) (numbers : List ℕ) → AllAre is says → length numbers ≡ length says →
    IsFile is text (numbered_text text last says numbers) says
file_at is text last says numbers h l = record {
  rows = rows_at last says numbers;
  are_rows = are_at is last says numbers h;
  written = sym (text_at text last says numbers);
  said = sym (said_at last says numbers l);
}

-- ---- a plan, whose lines stand one behind the other

abbrev said_rows : {A : Type 0} → List A → List (Row A)
said_rows [] = []
said_rows (a ∷ says) = Said a ∷ said_rows says

plan_rows : (lines : List PlanLine) → rows_text plan_line_text (said_rows lines) ≡ flat_map plan_line lines
plan_rows [] = refl
plan_rows (p ∷ lines) =
    ap (λ z. plan_line_text p ++ 10 ∷ z) (plan_rows lines) ∙ sym (append_assoc (plan_line_text p) (10 ∷ []) (flat_map plan_line lines))

are_said : {A : Type 0} (is : A → Type 0) (says : List A) → AllAre is says → AreRows is (said_rows says)
are_said is [] h = tt
are_said is (a ∷ says) h = (h.0, are_said is says h.1)

all_of_said : {A : Type 0} (says : List A) → says ≡ all_said (said_rows says)
all_of_said [] = refl
all_of_said (a ∷ says) = ap (λ z. a ∷ z) (all_of_said says)

pub plan_says : (bytes text : List ℕ) (lines : List PlanLine) → text ≡ flat_map plan_line lines → IsFile IsPlanLine plan_line_text bytes lines →
    IsFile IsPlanLine plan_line_text text lines
plan_says bytes text lines e file = record {
  rows = said_rows lines;
  are_rows = are_said IsPlanLine lines (subst (AllAre IsPlanLine) (sym file.said) (all_are IsPlanLine file.rows file.are_rows));
  written = e ∙ sym (plan_rows lines);
  said = all_of_said lines;
}
