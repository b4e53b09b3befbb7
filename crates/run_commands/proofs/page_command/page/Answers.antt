use Rattle.std.proofs.Common.{◌≡◌, refl, subst, sym, true}
use Rattle.script_tokens.specs.Bytes.{all, is_ascii}
use Rattle.script_check.specs.Trees.{script_of}
use Rattle.run_commands.specs.Pages.{IsPageBegun}
use Rattle.script_commands.proofs.Refused.{may_be_written}
use Rattle.run_commands.proofs.Simulated.{explains_no_write, explains_stop, unbegun}
use Rattle.run_commands.proofs.Paging.{page_begun_so, page_written_so, script_ascii}
use Rattle.run_commands.proofs.page_command.page.Goals as goal

-- where the inputs can't be read, that is the reason, and nothing is written
pub returns-in-Err-clause-refused : goal.returns-in-Err-clause-refused
returns-in-Err-clause-refused g c =
    let writes = g.W.Sink.failures c.args.writer.now in
    c.in-Err.ensures.refused c.args.cluster (writes, writes)

pub returns-in-Err-clause-beginning : goal.returns-in-Err-clause-beginning
returns-in-Err-clause-beginning g c =
    let held = g.W.Sink.held c.args.writer.now in
    unbegun (λ t e. IsPageBegun c.args.cluster c.args.contents t e held held) _ _ held held refl

pub page_script-requires-clause-ascii : goal.page_script-requires-clause-ascii
page_script-requires-clause-ascii g c =
    subst (λ t. all is_ascii t ≡ true) (sym c.as_slice-text.ensures.value) (script_ascii _ _ c.in-Ok.ensures.script)

-- where the replay stops, so, and nothing is written
pub returns-in-Err-page_script-clause-refused : goal.returns-in-Err-page_script-clause-refused
returns-in-Err-page_script-clause-refused g c =
    let inputs = c.in-Ok.inputs in
    explains_stop c.args.cluster _ _ inputs.text.items (script_of inputs.script) inputs.events.says inputs.events.numbers _ _ _
    c.in-Err-page_script.refusal c.in-Ok.ensures.text c.in-Ok.ensures.script c.in-Ok.ensures.events c.in-Err-page_script.ensures.stopped

pub returns-in-Err-page_script-clause-beginning : goal.returns-in-Err-page_script-clause-beginning
returns-in-Err-page_script-clause-beginning g c =
    let held = g.W.Sink.held c.args.writer.now in
    unbegun (λ t e. IsPageBegun c.args.cluster c.args.contents t e held held) _ _ held held refl

-- else the whole page is written
pub returns-in-Ok-put_all-clause-written : goal.returns-in-Ok-put_all-clause-written
returns-in-Ok-put_all-clause-written g c =
    let inputs = c.in-Ok.inputs in
    page_written_so c.args.cluster c.args.contents _ _ inputs.text.items (script_of inputs.script) inputs.events.says inputs.events.numbers
    c.as_slice-text.result.now _ _ c.in-Ok-page_script.made.status _ _
    c.in-Ok.ensures.text c.in-Ok.ensures.script c.in-Ok.ensures.events c.as_slice-text.ensures.value c.in-Ok-page_script.ensures.made c.as_slice.ensures.value c.in-Ok-put_all.ensures.ok

-- or a write failed, and a beginning of the page is out
pub returns-clause-refused : goal.returns-clause-refused
returns-clause-refused g c =
    explains_no_write c.args.cluster _ (g.E.Source.left c.args.events.now) _ _ _ c.in-Err-put_all.failure c.in-Err-put_all.ensures.failed.0 c.in-Err-put_all.ensures.failed.1

pub returns-clause-unwritten : goal.returns-clause-unwritten
returns-clause-unwritten g c = may_be_written c.in-Err-put_all.failure c.in-Err-put_all.ensures.failed.0

pub returns-clause-beginning : goal.returns-clause-beginning
returns-clause-beginning g c =
    let inputs = c.in-Ok.inputs in
    page_begun_so c.args.cluster c.args.contents _ _ inputs.text.items (script_of inputs.script) inputs.events.says inputs.events.numbers
    c.as_slice-text.result.now _ _ c.in-Ok-page_script.made.status _ _
    c.in-Ok.ensures.text c.in-Ok.ensures.script c.in-Ok.ensures.events c.as_slice-text.ensures.value c.in-Ok-page_script.ensures.made c.as_slice.ensures.value c.in-Err-put_all.ensures.beginning
