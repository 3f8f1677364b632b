use Rattle.std.proofs.Common.{◌≡◌, [], string_bytes, fold}
use Rattle.pv_acl.specs.Texts.{or_dash, acl_text, access_texts, with_entry}
use Rattle.pv_acl.proofs.Joining.{printed_is}
use Rattle.pv_acl.proofs.print.print_acl.Goals as goal

pub returns : goal.returns
returns c =
    let first : string_bytes c.add_access.new.text ≡ fold with_entry [] (access_texts c.args.acl.now.access) = rw (← c.new-text.ensures.bytes) c.in_ok-add_access.ensures in
    let e : or_dash (string_bytes c.add_default.new.text) ≡ acl_text c.args.acl.now =
    printed_is c.args.acl.now (string_bytes c.add_access.new.text) (string_bytes c.add_default.new.text) first c.in_ok-add_default.ensures in
    rw (← e) c.or_dash.ensures
