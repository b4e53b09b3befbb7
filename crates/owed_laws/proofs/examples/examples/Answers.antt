use Rattle.owed_laws.proofs.Judged.{births_are_judged, ends_are_judged, fetches_are_judged, reports_are_judged, requests_are_judged}
use Rattle.owed_laws.proofs.examples.examples.Goals as goal

pub returns-clause-births : goal.returns-clause-births
returns-clause-births c = births_are_judged

pub returns-clause-ends : goal.returns-clause-ends
returns-clause-ends c = ends_are_judged

pub returns-clause-fetches : goal.returns-clause-fetches
returns-clause-fetches c = fetches_are_judged

pub returns-clause-requests : goal.returns-clause-requests
returns-clause-requests c = requests_are_judged

pub returns-clause-reports : goal.returns-clause-reports
returns-clause-reports c = reports_are_judged
