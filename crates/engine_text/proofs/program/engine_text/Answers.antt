use Rattle.std.proofs.Common.{◌++◌, ap, ◌∙◌, map, string_bytes}
use Rattle.std.specs.List.{flat_map}
use Rattle.script_check.specs.Trees.{function_of, script_of}
use Rattle.engine_text.specs.declared.language.TheConstants.{LANGUAGE, FOOT}
use Rattle.engine_text.specs.Functions.{function_text}
use Rattle.engine_text.specs.Program.{calls_of}
use Rattle.engine_text.proofs.Rows.{whole}
use Rattle.engine_text.proofs.program.engine_text.Goals as goal

pub returns : goal.returns
returns c =
    let before = string_bytes c.push_str-2.new.self in
    whole (string_bytes c.new-text.result) c.calls_of.result.now (calls_of c.args.engine) LANGUAGE.now (flat_map function_text (script_of c.args.script.now)) FOOT.now
    (string_bytes c.push_str.new.self) before (string_bytes c.write_functions.new.text) (string_bytes c.push_str-3.new.self) c.new-text.ensures.bytes
    c.calls_of.ensures c.in_ok-push_str.ensures.bytes c.in_ok-push_str-2.ensures.bytes
    (c.in_ok-write_functions.ensures ∙ ap (λ fs. before ++ flat_map function_text (map function_of fs)) c.functions.ensures.value)
    c.in_ok-push_str-3.ensures.bytes
