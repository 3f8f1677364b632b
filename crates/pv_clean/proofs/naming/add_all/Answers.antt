use Rattle.std.proofs.Common.{◌≡◌, ◌||◌, ◌∙◌, sym, ap, [], List}
use Rattle.std.proofs.lemmas.List.{nil_from_length}
use Rattle.std.proofs.Math.Bool.{or-false}
use Rattle.pv_path.specs.Paths.{Path}
use Rattle.pv_walk.specs.Removal.{is_one_of}
use Rattle.pv_clean.proofs.AgeLaws.{set_more, popped_one}
use Rattle.pv_clean.proofs.naming.add_all.Goals as goal

pub loop-path-preserved : goal.loop-path-preserved
loop-path-preserved c = λ q.
    popped_one c.loop-path.set.keys c.insert.new.self.keys c.loop-path.left.items c.pop.new.self.items c.in-Some.path q c.in-Some.ensures.items
    (set_more c.loop-path.set.keys c.insert.new.self.keys c.in-Some.path q (c.in_ok-insert.ensures.updates.0 q))
    ∙ c.loop-path.invariant q

pub returns : goal.returns
returns c = λ q.
    let none : c.loop-path.left.items ≡ [] = nil_from_length c.loop-path.left.items (sym c.loop-path.left.ok.0 ∙ c.in_default.ensures.cases.0) in
    sym (or-false (is_one_of c.loop-path.set.keys q)) ∙ ap (λ (xs : List Path). is_one_of c.loop-path.set.keys q || is_one_of xs q) (sym none) ∙ c.loop-path.invariant q
