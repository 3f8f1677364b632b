use Rattle.std.proofs.Common.{◌≡◌, ℕ, true, List, [], ◌∷◌, ◌++◌, sym, ap, subst, ◌∙◌, append-nil}
use Rattle.std.specs.Fmt.{decimal}
use Rattle.pv_acl.specs.Parts.{mode_of}
use Rattle.pv_acl.specs.Texts.{acl_text}
use Rattle.pv_steps.specs.declared.object.Object.{Object}
use Rattle.pv_image.specs.Spelling.{attrs_text, kind_text, letters_text, mode_text, object_text, payload_text}
use Rattle.pv_image.specs.Writing.{with_columns}
use Rattle.pv_text.specs.Lines.{is_line}
use Rattle.pv_image.proofs.Lines.{joined_columns}
use Rattle.pv_image.proofs.Solid.{object_whole}
use Rattle.pv_image.proofs.write.print_node.Goals as goal

pub returns-clause-text : goal.returns-clause-text
returns-clause-text c =
    let n = c.args.node.now in
    let owner = mode_text (mode_of n.special n.acl.access) ∷ decimal n.uid ∷ decimal n.gid ∷ [] in
    let y = payload_text n.kind (record { bytes = c.args.payload.now; major = n.major; minor = n.minor }) in
    let others = acl_text n.acl ∷ attrs_text n.attrs ∷ letters_text n.letters ∷ y ∷ [] in
    let e1 = c.in_ok-push.ensures.items ∙ ap (λ (x : List ℕ). x ++ c.kind_letter.result ∷ []) c.new-text.ensures.items ∙ sym c.kind_letter.ensures in
    let e2 = c.in_ok-add_owner.ensures ∙ ap (λ x. with_columns x owner) e1 in
    let e3 = c.in_ok-add_others.ensures ∙ ap (λ x. with_columns x others) e2 in
    let text = object_text (record { node = n; payload = c.args.payload.now }) in
    e3 ∙ sym (append-nil (with_columns (kind_text n.kind) (mode_text (mode_of n.special n.acl.access) ∷ decimal n.uid ∷ decimal n.gid ∷ others)))
    ∙ joined_columns [] (kind_text n.kind) (mode_text (mode_of n.special n.acl.access) ∷ decimal n.uid ∷ decimal n.gid ∷ others) [] ∙ append-nil text

pub returns-clause-line : goal.returns-clause-line
returns-clause-line c =
    let o : Object = record { node = c.args.node.now; payload = c.args.payload.now } in
    subst (λ (text : List ℕ). is_line text ≡ true) (sym (returns-clause-text c))
    (object_whole o)
