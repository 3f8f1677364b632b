use Rattle.std.proofs.Common.{◌≡◌, ℕ, List, ◌<◌, map, get_or, length, arith, rules, sym, ap, ◌∙◌}
use Rattle.std.proofs.lemmas.List.{get_or-map, length-map}
use Rattle.std.proofs.lemmas.List.Elements.{All-get_or}
use Rattle.pv_glob.specs.Words.{rank}
use Rattle.pv_glob.proofs.search.spelled.Goals as goal

pub byte_at-requires : goal.byte_at-requires
byte_at-requires c =
    let bytes = c.requires.0 in
    let i = c.loop-place.place-index in
    let is : map rank bytes ≡ c.ranks-place-items.result.now = c.requires.2 ∙ sym c.ranks-place-items.ensures in
    let long : i < length bytes = (let l = ap length is in let t : i < length c.ranks-place-items.result.now = search rules in omega (arith, l, t, length-map bytes rank)) in
    record { byte = (get_or bytes i 0, All-get_or (λ b. b < 256) bytes i 0 long c.requires.1, sym (get_or-map rank bytes i 0 0 long) ∙ ap (λ (x : List ℕ). get_or x i 0) is) }
