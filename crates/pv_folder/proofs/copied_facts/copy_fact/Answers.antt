use Rattle.std.proofs.Common.{◌∙◌, ℕ, ap}
use Rattle.std.specs.FinMap as fin
use Rattle.pv_path.proofs.Tests.{on_ok}
use Rattle.pv_text.specs.Facts.{Values}
use Rattle.pv_folder.proofs.FactLaws.{put_fact}
use Rattle.pv_folder.proofs.copied_facts.copy_fact.Goals as goal

pub returns-in-Some : goal.returns-in-Some
returns-in-Some c =
    on_ok c.put.result
    (λ e (l : ℕ). ap (λ (m : Values). fin.get m l) e ∙ put_fact c.args.facts.now c.args.copy.now c.args.letter c.in-Some.value.now l c.in-Some.ensures.value)
    c.put.ensures.ok
