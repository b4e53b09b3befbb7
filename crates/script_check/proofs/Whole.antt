-- Steps of the proofs on functions and programs.
use Rattle.std.proofs.Common.{◌≡◌, ℕ, ◌+◌, ◌<◌, ◌≤◌, true, List, [], ◌∷◌, ◌++◌, length, get_or, drop, map, refl, sym, ap, ◌∙◌, Option, Some, None}
use Rattle.std.specs.Prelude.{string_bytes}
use Rattle.meaning.specs.Syntax.{Parameter, Function, Script}
use Rattle.meaning.specs.Kinds.{Context}
use Rattle.script_syntax.specs.Trees as parsed
use Rattle.script_syntax.specs.Views.{parameter_of as parsed_parameter, function_of as parsed_function, program_of, type_of}
use Rattle.script_syntax.specs.declared.tree.ValueType.{ValueType}
use Rattle.script_syntax.specs.declared.tree.Parameter.{Parameter as WrittenParameter}
use Rattle.script_syntax.specs.declared.tree.Function.{Function as WrittenFunction}
use Rattle.script_check.specs.Rules.{variable, parameter_named}
use Rattle.script_check.specs.Trees.{kind_named, kind_of, parameter_of, function_of, script_of}
use Rattle.script_check.specs.Typings.{joined_parameters, onto_parameters, joined_functions, onto_functions}
use Rattle.script_check.specs.Inference.{◌>>=◌, when, Declared, fresh, declared, block_from, block_returns, function_from, functions_from}
use Rattle.script_check.specs.declared.tree.CheckedParameter.{CheckedParameter}
use Rattle.script_check.specs.declared.tree.CheckedFunction.{CheckedFunction}
use Rattle.script_check.proofs.Arms.{here, drop_end, both, neither}

-- Parameters

joined_snoc : (cs : List CheckedParameter) (c : CheckedParameter) (ps : List Parameter) → joined_parameters (cs ++ c ∷ []) ps ≡ joined_parameters cs (parameter_of c ∷ ps)
joined_snoc [] c ps = refl
joined_snoc (d ∷ cs) c ps = ap (λ xs. parameter_of d ∷ xs) (joined_snoc cs c ps)

joined_end : (cs : List CheckedParameter) → joined_parameters cs [] ≡ map parameter_of cs
joined_end [] = refl
joined_end (c ∷ cs) = ap (λ xs. parameter_of c ∷ xs) (joined_end cs)

onto_more : (cs : List CheckedParameter) (c : CheckedParameter) (o : Option Declared) → onto_parameters cs (o >>= λ d. Some (record { parameters = parameter_of c ∷ d.parameters; context = d.context })) ≡ onto_parameters (cs ++ c ∷ []) o
onto_more cs c None = refl
onto_more cs c (Some d) = ap (λ z. Some (record { parameters = z; context = d.context })) (sym (joined_snoc cs c d.parameters))

pub parameters_step : (cs : List CheckedParameter) (c : CheckedParameter) (ps : List WrittenParameter) (i : ℕ) (p : WrittenParameter) (before after : Context) (whole : Option Declared) → i < length ps → p ≡ get_or ps i p →
    onto_parameters cs (declared (map parsed_parameter (drop i ps)) before) ≡ whole → fresh before (string_bytes p.name.text) ≡ Some tt → after ≡ before ++ variable (string_bytes p.name.text) (kind_of p.kind) →
    parameter_of c ≡ parameter_named (parsed_parameter p) → onto_parameters (cs ++ c ∷ []) (declared (map parsed_parameter (drop (i + 1) ps)) after) ≡ whole
parameters_step cs c ps i p before after whole h e so new is same =
    sym (onto_more cs c (declared (map parsed_parameter (drop (i + 1) ps)) after))
    ∙ ap (λ q. onto_parameters cs (declared (map parsed_parameter (drop (i + 1) ps)) after >>= λ d. Some (record { parameters = q ∷ d.parameters; context = d.context }))) same
    ∙ ap (λ z. onto_parameters cs (declared (map parsed_parameter (drop (i + 1) ps)) z >>= λ d. Some (record { parameters = parameter_named (parsed_parameter p) ∷ d.parameters; context = d.context }))) is
    ∙ sym (ap (λ qs. onto_parameters cs (declared (map parsed_parameter qs) before)) (here ps i p h e) ∙ ap (onto_parameters cs) (both (fresh before (string_bytes p.name.text)) tt _ _ new refl)) ∙ so

pub parameters_end : (cs : List CheckedParameter) (ps : List WrittenParameter) (i : ℕ) (before : Context) (whole : Option Declared) → length ps ≤ i →
    onto_parameters cs (declared (map parsed_parameter (drop i ps)) before) ≡ whole → whole ≡ Some (record { parameters = map parameter_of cs; context = before })
parameters_end cs ps i before whole h so =
    sym so ∙ ap (λ qs. onto_parameters cs (declared (map parsed_parameter qs) before)) (drop_end ps i h) ∙ ap (λ z. Some (record { parameters = z; context = before })) (joined_end cs)

-- A function

pub kinds_are : (ts : List ValueType) → map kind_of ts ≡ map kind_named (map type_of ts)
kinds_are [] = refl
kinds_are (t ∷ ts) = ap (λ ks. kind_of t ∷ ks) (kinds_are ts)

pub function_gives : (program : parsed.Program) (f : parsed.Function) (d : Declared) (g : Function) → declared f.parameters [] ≡ Some d → block_from program f f.body d.context ≡ Some g.body → block_returns f.body ≡ true →
    g.name ≡ f.name → g.parameters ≡ d.parameters → g.result ≡ kind_named f.result → g.others ≡ map kind_named f.others → function_from program f ≡ Some g
function_gives program f d g params body every name same result others =
    both (declared f.parameters []) d _ _ params (both (block_from program f f.body d.context) g.body _ _ body
    (ap (λ b. when b (record { name = f.name; parameters = d.parameters; result = kind_named f.result; others = map kind_named f.others; body = g.body })) every
    ∙ ap (λ n. Some (record { name = n; parameters = d.parameters; result = kind_named f.result; others = map kind_named f.others; body = g.body })) (sym name)
    ∙ ap (λ ps. Some (record { name = g.name; parameters = ps; result = kind_named f.result; others = map kind_named f.others; body = g.body })) (sym same)
    ∙ ap (λ k. Some (record { name = g.name; parameters = g.parameters; result = k; others = map kind_named f.others; body = g.body })) (sym result)
    ∙ ap (λ ks. Some (record { name = g.name; parameters = g.parameters; result = g.result; others = ks; body = g.body })) (sym others)))

-- Functions in order

functions_snoc : (cs : List CheckedFunction) (c : CheckedFunction) (fs : Script) → joined_functions (cs ++ c ∷ []) fs ≡ joined_functions cs (function_of c ∷ fs)
functions_snoc [] c fs = refl
functions_snoc (d ∷ cs) c fs = ap (λ xs. function_of d ∷ xs) (functions_snoc cs c fs)

functions_joined : (cs : List CheckedFunction) → joined_functions cs [] ≡ script_of cs
functions_joined [] = refl
functions_joined (c ∷ cs) = ap (λ xs. function_of c ∷ xs) (functions_joined cs)

functions_more : (cs : List CheckedFunction) (c : CheckedFunction) (o : Option Script) → onto_functions cs (o >>= λ gs. Some (function_of c ∷ gs)) ≡ onto_functions (cs ++ c ∷ []) o
functions_more cs c None = refl
functions_more cs c (Some gs) = ap Some (sym (functions_snoc cs c gs))

pub functions_fail : (program : parsed.Program) (cs : List CheckedFunction) (fs : List WrittenFunction) (i : ℕ) (f : WrittenFunction) (whole : Option Script) → i < length fs → f ≡ get_or fs i f →
    onto_functions cs (functions_from program (program_of (drop i fs))) ≡ whole → function_from program (parsed_function f) ≡ None → whole ≡ None
functions_fail program cs fs i f whole h e so none =
    sym so ∙ ap (λ gs. onto_functions cs (functions_from program (program_of gs))) (here fs i f h e) ∙ ap (onto_functions cs) (neither (function_from program (parsed_function f)) _ none)

pub functions_step : (program : parsed.Program) (cs : List CheckedFunction) (c : CheckedFunction) (fs : List WrittenFunction) (i : ℕ) (f : WrittenFunction) (whole : Option Script) → i < length fs → f ≡ get_or fs i f →
    onto_functions cs (functions_from program (program_of (drop i fs))) ≡ whole → function_from program (parsed_function f) ≡ Some (function_of c) → onto_functions (cs ++ c ∷ []) (functions_from program (program_of (drop (i + 1) fs))) ≡ whole
functions_step program cs c fs i f whole h e so some =
    sym (functions_more cs c (functions_from program (program_of (drop (i + 1) fs))))
    ∙ sym (ap (λ gs. onto_functions cs (functions_from program (program_of gs))) (here fs i f h e) ∙ ap (onto_functions cs) (both (function_from program (parsed_function f)) (function_of c) _ _ some refl)) ∙ so

pub functions_end : (program : parsed.Program) (cs : List CheckedFunction) (fs : List WrittenFunction) (i : ℕ) (whole : Option Script) → length fs ≤ i →
    onto_functions cs (functions_from program (program_of (drop i fs))) ≡ whole → whole ≡ Some (script_of cs)
functions_end program cs fs i whole h so =
    sym so ∙ ap (λ gs. onto_functions cs (functions_from program (program_of gs))) (drop_end fs i h) ∙ ap Some (functions_joined cs)
