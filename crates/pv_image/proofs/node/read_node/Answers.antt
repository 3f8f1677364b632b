use Rattle.std.proofs.Common.{List, ℕ, ◌==◌, IfOk, subst}
use Rattle.std.specs.List.{slice_split}
use Rattle.std.proofs.lemmas.Result.{IfOk-weaker}
use Rattle.pv_image.specs.Spelling.{IsEntry, columns, node_text}
use Rattle.pv_image.specs.Reading.{Reads}
use Rattle.pv_image.proofs.Cutting.{reads_joined, reads_too_many}
use Rattle.pv_image.proofs.Solid.{few_columns, node_again}
use Rattle.pv_image.proofs.node.read_node.Goals as goal

pub returns-in-Some : goal.returns-in-Some
returns-in-Some c =
    let text = c.args.text.now in
    let version = c.args.version in
    IfOk-weaker c.entry_of.result (Reads (columns version) (IsEntry version) (slice_split (λ b. b == 32) text)) (Reads (node_text version) (IsEntry version) text)
    (λ o read. reads_joined 32 (columns version) (IsEntry version) text o (node_again version) read)
    (subst (λ (ts : List (List ℕ)). IfOk c.entry_of.result (Reads (columns version) (IsEntry version) ts)) c.in-Some.ensures.some c.entry_of.ensures)

pub returns-in-None : goal.returns-in-None
returns-in-None c =
    reads_too_many 32 10 (columns c.args.version) (IsEntry c.args.version) c.args.text.now (node_again c.args.version) (few_columns c.args.version) c.in-None.ensures.none
