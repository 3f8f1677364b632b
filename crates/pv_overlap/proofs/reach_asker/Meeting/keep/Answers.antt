use Rattle.std.proofs.Common.{◌≡◌, ℕ, ◌<◌, ◌^◌, List, Some, cond, nat_eq, sym, ap, subst, ◌∙◌, arith}
use Rattle.std.specs.Map.{lookup}
use Rattle.pv_glob.specs.declared.meeting.Reach.{Reach}
use Rattle.pv_glob.specs.Words.{Finds}
use Rattle.pv_overlap.specs.Alike.{key_of}
use Rattle.pv_overlap.specs.Subjects.{meets, reach_at}
use Rattle.pv_overlap.proofs.AlikeLaws.{known_more}
use Rattle.pv_overlap.proofs.reach_asker.Meeting.keep.Goals as goal

pub invariant_of-self-2 : goal.invariant_of-self-2
invariant_of-self-2 c =
    let small : c.args.b < 2 ^ 32 = omega arith in
    let up : (q : ℕ) → lookup (nat_eq q) c.insert.new.self.entries ≡ cond (nat_eq (key_of c.args.a c.args.b) q) (Some c.args.found) (lookup (nat_eq q) c.self.inside.known.entries) = λ q.
    c.in_ok-insert.ensures.updates.0 q ∙ ap (λ (k : ℕ). cond (nat_eq k q) (Some c.args.found) (lookup (nat_eq q) c.self.inside.known.entries)) c.key_of.ensures in
    let reaches : c.self.inside.reaches.now ≡ c.args.self.now.0 = cc in
    let found = subst (λ (rs : List Reach). Finds (meets (reach_at rs c.args.a) (reach_at rs c.args.b)) c.args.found) (sym reaches) c.requires in
    (c.self.invariant.0, known_more c.self.inside.reaches.now c.self.inside.known.entries c.insert.new.self.entries c.args.a c.args.b c.args.found small c.self.invariant.1 up found)
