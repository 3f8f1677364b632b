use Rattle.std.proofs.Common.{◌≡◌, take, map, fold, string_bytes}
use Rattle.pv_acl.specs.Texts.{named_text, with_entry}
use Rattle.pv_acl.proofs.print.add_named.Given as goal

abbrev pub invariant-loop-x : goal.invariant-loop-x
invariant-loop-x l = string_bytes l.text ≡ fold with_entry (string_bytes l.fn.text) (map named_text (take l.x-index l.named))
