use Rattle.std.proofs.Common.{◌≡◌, ℕ, List, Some, cond, is_some, false, option_map, sym, ap, ◌∙◌}
use Rattle.std.specs.Str.{bytes_eq}
use Rattle.pv_sysusers.specs.Deciding.{fixed_by}
use Rattle.pv_sysusers.proofs.FixedLaws.{fixes_first, put_seen}
use Rattle.pv_sysusers.proofs.fixed.Fixed.add.Goals as goal

pub returns : goal.returns
returns c =
    let name : c.as_slice-name.result.now ≡ c.args.need.now.name = c.as_slice-name.ensures in
    let new : is_some (fixed_by c.args.self.now c.args.need.now.name) ≡ false = ap (λ (n : List ℕ). is_some (fixed_by c.args.self.now n)) (sym name) ∙ sym c.has.ensures ∙ c.if-has.false in
    let step : (q : List ℕ) → fixed_by (record { numbers = c.insert.new.self }) q ≡ cond (bytes_eq c.args.need.now.name q) (Some (c.in-Some.n, c.args.need.now.place)) (fixed_by c.args.self.now q)
    = λ q. ap (option_map (λ f. (f.0, f.1.now))) (c.in_ok-insert.ensures.updates.0 (record { ref_ptr = (0, 0); now = q })) ∙ put_seen _ _ _ _ ∙ ap (λ (n : List ℕ). cond (bytes_eq n q) (Some (c.in-Some.n, c.args.need.now.place)) (fixed_by c.args.self.now q)) name in
    fixes_first c.args.need.now c.in-Some.n (fixed_by c.args.self.now) (fixed_by (record { numbers = c.insert.new.self })) c.in-Some.is new step
