use Rattle.protocol_laws.proofs.Given.{runs_have_the_logs_answers}
use Rattle.protocol_laws.proofs.law.runs_have_the_logs_answers.Goals as goal

pub returns : goal.returns
returns c = runs_have_the_logs_answers
