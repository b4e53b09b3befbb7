use Rattle.std.proofs.Common.{string_bytes}
use Rattle.state_text.specs.Nodes.{nodes_text}
use Rattle.state_text.specs.Objects.{all_objects_text}
use Rattle.state_text.specs.Text.{head_text, state_text}
use Rattle.state_text.specs.Workers.{workers_text}
use Rattle.holder_text.proofs.Writing.{four}
use Rattle.state_text.proofs.text.write_state.Goals as goal

pub returns : goal.returns
unfolding state_text
returns c = λ h.
    four (string_bytes c.args.text.now) (string_bytes c.write_head.new.text) (string_bytes c.write_nodes.new.text) (string_bytes c.write_workers.new.text)
    (string_bytes c.write_all_objects.new.text) (head_text c.args.log.now c.args.all) (nodes_text c.args.log.now c.args.whole.now)
    (workers_text c.args.log.now c.args.whole.now) (all_objects_text c.args.log.now c.args.whole.now)
    c.in_ok-write_head.ensures (c.in_ok-write_nodes.ensures h) (c.in_ok-write_workers.ensures h) (c.in_ok-write_all_objects.ensures h)
