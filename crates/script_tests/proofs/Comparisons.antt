-- Reading computes, and reads each program.
use Rattle.std.proofs.Common.{◌≡◌, ◌∙◌, Option, None, Some, refl, sym}
use Rattle.script_syntax.specs.Grammar.{IsProgram, NoProgram}
use Rattle.script_syntax.specs.Reading.{block, chain, deeper, deeper_kind, deeper_statement, enclosed, expression, function, kind, other_values, outermost, parameters, postfix, primary, product, program, results, returned, statement, statements, sum, unary}
use Rattle.script_syntax.specs.Trees.{Program}
use Rattle.script_syntax.proofs.Programs.{program_found, program_read}
use Rattle.script_tests.specs.Chains.{chained, grouped, grouped_tree, main_returns, main_with}

chained_unread : program (main_returns chained) ≡ None
unfolding program chain function parameters deeper_kind results kind block deeper_statement statements statement returned outermost other_values expression sum product unary postfix primary enclosed deeper
chained_unread = refl

pub chained_is_none : NoProgram (main_returns chained)
chained_is_none p h = differ (sym chained_unread ∙ program_read (main_returns chained) p h)
  where
    differ : ◌≡◌ {A = Option Program} None (Some p) → ⊥
    differ e = absurd (cc)

grouped_read : program (main_returns grouped) ≡ Some (main_with grouped_tree)
unfolding program chain function parameters deeper_kind results kind block deeper_statement statements statement returned outermost other_values expression sum product unary postfix primary enclosed deeper
grouped_read = refl

pub grouped_is_one : IsProgram (main_returns grouped) (main_with grouped_tree)
grouped_is_one = program_found (main_returns grouped) (main_with grouped_tree) grouped_read
