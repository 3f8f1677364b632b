use Rattle.std.proofs.Common.{[], ◌∷◌, ◌++◌, sym, ap, ◌∙◌}
use Rattle.std.specs.Fmt.{decimal}
use Rattle.pv_path.specs.Printing.{printed_path}
use Rattle.pv_acl.specs.Parts.{mode_of}
use Rattle.pv_acl.specs.Texts.{acl_text}
use Rattle.pv_image.specs.Spelling.{attrs_text, kind_text, letters_text, mode_text, stamps_text, payload_text}
use Rattle.pv_image.specs.Writing.{with_columns}
use Rattle.pv_image.proofs.Lines.{joined_columns}
use Rattle.pv_image.proofs.write.add_node.Goals as goal

pub returns : goal.returns
returns c =
    let n = c.args.node.now in
    let o = c.args.output.now.items in
    let p = printed_path c.args.path.now in
    let owner = mode_text (mode_of n.special n.acl.access) ∷ decimal n.uid ∷ decimal n.gid ∷ [] in
    let s = stamps_text n.stamps in
    let y = payload_text n.kind (record { bytes = c.args.payload.now; major = n.major; minor = n.minor }) in
    let others = acl_text n.acl ∷ attrs_text n.attrs ∷ letters_text n.letters ∷ y ∷ [] in
    let e1 = c.in_ok-push.ensures.items ∙ ap (λ x. o ++ x) (sym c.kind_letter.ensures) in
    let e2 = c.in_ok-add_path.ensures ∙ ap (λ x. x ++ 32 ∷ p) e1 in
    let e3 = c.in_ok-add_owner.ensures ∙ ap (λ x. with_columns x owner) e2 in
    let e4 = c.in_ok-add_stamps.ensures ∙ ap (λ x. x ++ 32 ∷ s) e3 in
    let e5 = c.in_ok-add_others.ensures ∙ ap (λ x. with_columns x others) e4 in
    c.in_ok-push-2.ensures.items ∙ ap (λ x. x ++ 10 ∷ []) e5
    ∙ joined_columns o (kind_text n.kind) (p ∷ mode_text (mode_of n.special n.acl.access) ∷ decimal n.uid ∷ decimal n.gid ∷ s ∷ others) (10 ∷ [])
