use Rattle.std.proofs.Common.{◌≡◌, take, map, filter, fold, string_bytes}
use Rattle.pv_acl.specs.Texts.{default_text, is_of, with_entry}
use Rattle.pv_acl.proofs.print.add_chosen.Given as goal

abbrev pub invariant-loop-x : goal.invariant-loop-x
invariant-loop-x l =
    string_bytes l.text ≡ fold with_entry (string_bytes l.fn.text) (map default_text (filter (is_of l.fn.users) (take l.x-index l.named)))
