use Rattle.std.proofs.Common.{◌≡◌, ◌++◌, ◌∷◌, [], List, ℕ, ap, ◌∙◌, append_assoc}
use Rattle.std.specs.List.{flat_map}
use Rattle.std.specs.FinMap as fin
use Rattle.pv_image.specs.Spelling.{line, end_text}
use Rattle.pv_image.specs.Writing.{fact_line, node_line}
use Rattle.pv_image.specs.Written.{written_tree}
use Rattle.pv_image.proofs.EmptyLaws.{tree_told}
use Rattle.pv_image.proofs.ImageLaws.{text_image}
use Rattle.pv_image.proofs.Wholes.{have_text, parts_of_text}
use Rattle.pv_image.proofs.writer.add_image_with.Goals as goal

-- five parts put behind a text are their whole behind it
behind : (t a b c d e : List ℕ) → ((((t ++ a) ++ b) ++ c) ++ d) ++ e ≡ t ++ ((((a ++ b) ++ c) ++ d) ++ e)
behind t a b c d e =
    ap (λ x. ((x ++ c) ++ d) ++ e) (append_assoc t a b)
    ∙ ap (λ x. (x ++ d) ++ e) (append_assoc t (a ++ b) c)
    ∙ ap (λ x. x ++ e) (append_assoc t ((a ++ b) ++ c) d)
    ∙ append_assoc t (((a ++ b) ++ c) ++ d) e

pub returns-clause-text : goal.returns-clause-text
returns-clause-text c =
    let facts = c.args.facts.now in
    let files = written_tree c.args.extent c.args.tree.now.files in
    let before = c.args.output.now.items in
    let header = c.header.result.now in
    let e1 = c.in_ok-add_facts.ensures.text ∙ ap (λ x. x ++ flat_map fact_line (fin.entries facts)) (c.in_ok-push.ensures.items ∙ ap (λ x. x ++ 10 ∷ []) c.in_ok-extend_from_slice.ensures.items) in
    let e2 = c.in_ok-add_nodes.ensures.text ∙ ap (λ x. x ++ flat_map node_line (fin.entries files)) e1 in
    c.in_ok-extend_from_slice-2.ensures.items ∙ ap (λ x. x ++ line end_text) e2
    ∙ behind before header (10 ∷ []) (flat_map fact_line (fin.entries facts)) (flat_map node_line (fin.entries files)) (line end_text)
    ∙ ap (λ x. before ++ ((((x ++ 10 ∷ []) ++ flat_map fact_line (fin.entries facts)) ++ flat_map node_line (fin.entries files)) ++ line end_text)) c.header.ensures
    ∙ ap (λ x. before ++ x) (parts_of_text facts files)

pub returns-clause-image : goal.returns-clause-image
returns-clause-image c =
    let facts = c.args.facts.now in
    let files = written_tree c.args.extent c.args.tree.now.files in
    text_image facts files (have_text facts files c.in_ok-add_facts.ensures.fit (tree_told c.args.extent c.args.tree.now.files c.in_ok-add_nodes.ensures.tree))
