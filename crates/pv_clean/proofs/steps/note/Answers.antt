use Rattle.std.proofs.Common.{◌≡◌, ℕ, ◌-◌, ◌&&◌, Bool, List, false, unwrap_or, slice_get, nat_lt, get_or, replicate, sym, ap, ◌∙◌}
use Rattle.std.specs.Vec.{vec_len}
use Rattle.std.proofs.lemmas.Option.{unwrap_or-slice_get}
use Rattle.pv_clean.specs.Judging.{noted}
use Rattle.pv_clean.proofs.LevelLaws.{all_clones, noted_last, noted_none, noted_not, resized}
use Rattle.pv_clean.proofs.steps.note.Goals as goal
use Rattle.pv_clean.proofs.steps.note.Goals.{else-is-via-then-is+else-count-gt0, else-is-via-else-is}

pub returns-then-count-gt0 : goal.returns-then-count-gt0
returns-then-count-gt0 c = λ k.
    let old = c.args.level.now.items in
    let new = c.resize.new.self.items in
    let fill = c.args.count - vec_len c.args.level.now in
    let base : (j : ℕ) → get_or new j false ≡ (nat_lt j c.args.count && unwrap_or (slice_get old j) false) =
    λ j. ap (λ (bs : List Bool). get_or bs j false) c.in_ok-resize.ensures.items ∙ resized old (replicate fill false) (all_clones fill) c.args.count j ∙ ap (λ b. nat_lt j c.args.count && b) (sym (unwrap_or-slice_get old j false)) in
    unwrap_or-slice_get _ k false
    ∙ noted_last (λ j. unwrap_or (slice_get old j) false) new c.args.count base c.if-count-gt0.true (sym c.resize.new.self.ok.0 ∙ c.in_ok-resize.ensures.len) k
    ∙ ap (λ b. noted c.args.count b (λ j. unwrap_or (slice_get old j) false) k) (sym c.if-is.true)

pub returns-else-is : goal.returns-else-is
returns-else-is c = λ k.
    let old = c.args.level.now.items in
    let new = c.resize.new.self.items in
    let fill = c.args.count - vec_len c.args.level.now in
    let base : get_or new k false ≡ (nat_lt k c.args.count && unwrap_or (slice_get old k) false) =
    ap (λ (bs : List Bool). get_or bs k false) c.in_ok-resize.ensures.items ∙ resized old (replicate fill false) (all_clones fill) c.args.count k ∙ ap (λ b. nat_lt k c.args.count && b) (sym (unwrap_or-slice_get old k false)) in
    unwrap_or-slice_get new k false ∙ base
    ∙ elim c.else-is.branch [
      | else-is-via-then-is+else-count-gt0 w ↦ noted_not (λ j. unwrap_or (slice_get old j) false) c.args.count k c.args.is w.if-count-gt0.false
      | else-is-via-else-is w ↦ noted_none (λ j. unwrap_or (slice_get old j) false) c.args.count k ∙ ap (λ b. noted c.args.count b (λ j. unwrap_or (slice_get old j) false) k) (sym w.if-is.false)
    ]
