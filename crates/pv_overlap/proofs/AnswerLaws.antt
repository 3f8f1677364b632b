-- Reaches whose heads are not related share no path.
use Rattle.std.proofs.Common.{◌≡◌, ℕ, ◌<◌, Bool, true, false, List, [], length, get_or, None, refl, sym, ap, ◌∙◌, arith}
use Rattle.std.proofs.lemmas.List.{get_or-map, length-map}
use Rattle.pv_path.specs.Paths.{Path}
use Rattle.pv_glob.specs.declared.meeting.Reach.{Reach}
use Rattle.pv_overlap.specs.Heads.{head_of_all, related}
use Rattle.pv_overlap.proofs.HeadLaws.{met_heads}
use Rattle.pv_overlap.specs.Subjects.{heads_of, MayAnswer, meets, no_reach, reach_at}

pub apart_none : (reaches : List Reach) (lines i j : ℕ) → i < j → j < length reaches → related (get_or (heads_of reaches) i []) (get_or (heads_of reaches) j []) ≡ false → MayAnswer reaches lines i j None
apart_none reaches lines i j l m e = (λ _. (λ path. by path (meets (reach_at reaches i) (reach_at reaches j) path) refl), λ _. refl)
  where
    head_at : (k : ℕ) → k < length reaches → get_or (heads_of reaches) k [] ≡ head_of_all (reach_at reaches k).pattern
    head_at k n = get_or-map (λ (reach : Reach). head_of_all reach.pattern) reaches k no_reach [] n

    apart : related (head_of_all (reach_at reaches i).pattern) (head_of_all (reach_at reaches j).pattern) ≡ false
    apart = sym (ap (λ (p : Path). related p (get_or (heads_of reaches) j [])) (head_at i (omega (arith, l, m))) ∙ ap (λ (p : Path). related (head_of_all (reach_at reaches i).pattern) p) (head_at j m)) ∙ e

    by : (path : Path) (t : Bool) → meets (reach_at reaches i) (reach_at reaches j) path ≡ t → t ≡ false
    by path true f = absurd (
        let near = met_heads (reach_at reaches i).pattern (reach_at reaches i).below (reach_at reaches j).pattern (reach_at reaches j).below path f in
        let differ : ◌≡◌ {A = Bool} false true = sym apart ∙ near in cc)
    by path false f = refl

pub heads_length : (reaches : List Reach) → length (heads_of reaches) ≡ length reaches
heads_length reaches = length-map reaches (λ (reach : Reach). head_of_all reach.pattern)
