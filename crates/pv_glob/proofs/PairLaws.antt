-- The words of the machine of two components are the names that both match.
use Rattle.std.proofs.Common.{◌≡◌, ℕ, ◌+◌, ◌*◌, ◌/◌, ◌%◌, ◌<◌, ◌≤◌, Bool, true, false, ◌&&◌, ◌||◌, ◌==◌, List, [], ◌∷◌, length, drop, Some, None, refl, sym, ap, ◌∙◌, arith, if◌then◌else◌, All}
use Rattle.std.specs.List.{list_any, flat_map}
use Rattle.std.specs.Option.{option_to_list}
use Rattle.std.proofs.Math.Nat.{add-mul-div_left, add-mul-mod_self_left, div-eq_of_lt, mod-eq_of_lt, mul_comm}
use Rattle.std.proofs.lemmas.List.Elements.{All-head, All-tail}
use Rattle.std.proofs.lemmas.List.Folds.{list_any-append}
use Rattle.std.proofs.Math.Bool.{or-false}
use Rattle.pv_glob.specs.declared.element.Element.{Element}
use Rattle.pv_glob.specs.Matching.{component_matches, name_matches}
use Rattle.pv_glob.specs.declared.beginning.Beginning.{Beginning}
use Rattle.pv_glob.specs.declared.beginning.Beginning.TheVariants.{Nothing, Dot, TwoDots, DotHash, DotHashT, DotHashTf, Other}
use Rattle.pv_glob.specs.declared.spot.Spot.{Spot}
use Rattle.pv_glob.specs.Machines.{reads}
use Rattle.pv_glob.specs.Pairs.{is_many, element_at, takes, behind, past_stars, takers, beginning_after, beginning_of, code_of, could_be_name, ends_at, is_nothing, is_shared, may_end, may_follow, number_of, pair_machine, spot_at, spots_after, target}
use Rattle.pv_glob.proofs.Beginnings.{goes_on, goes_on-nothing, and_assoc}
use Rattle.pv_glob.proofs.Components.{none_left, taken, taken_at, takers-inside}

-- ---- numbers of places

code_below : (s : Beginning) → code_of s < 7
code_below Nothing = omega arith
code_below Dot = omega arith
code_below TwoDots = omega arith
code_below DotHash = omega arith
code_below DotHashT = omega arith
code_below DotHashTf = omega arith
code_below Other = omega arith

of_code : (s : Beginning) → beginning_of (code_of s) ≡ s
of_code Nothing = refl
of_code Dot = refl
of_code TwoDots = refl
of_code DotHash = refl
of_code DotHashT = refl
of_code DotHashTf = refl
of_code Other = refl

same_spot : (l l' r r' : ℕ) (s s' : Beginning) → l ≡ l' → r ≡ r' → s ≡ s' → ◌≡◌ {A = Spot} (record { left = l; right = r; begun = s }) (record { left = l'; right = r'; begun = s' })
same_spot l l' r r' s s' p q e = cc

cell_left : (width left right : ℕ) → right < width → (left * width + right) / width ≡ left
cell_left width left right l =
    let turned : left * width + right ≡ right + width * left = (let c = mul_comm left width in omega (arith, c)) in
    let none = div-eq_of_lt l in
    ap (λ x. x / width) turned ∙ add-mul-div_left right left (omega arith) ∙ ap (λ x. x + left) none ∙ omega arith

cell_right : (width left right : ℕ) → right < width → (left * width + right) % width ≡ right
cell_right width left right l =
    let turned : left * width + right ≡ right + width * left = (let c = mul_comm left width in omega (arith, c)) in
    ap (λ x. x % width) turned ∙ add-mul-mod_self_left right width left ∙ mod-eq_of_lt l

seven_div : (cell code : ℕ) → code < 7 → (7 * cell + code) / 7 ≡ cell
seven_div cell code l = omega arith

seven_mod : (cell code : ℕ) → code < 7 → (7 * cell + code) % 7 ≡ code
seven_mod cell code l = omega arith

-- a place has its number
pub spot_number : (width : ℕ) (spot : Spot) → spot.right < width → spot_at width (number_of width spot) ≡ spot
spot_number width spot l =
    let cell = spot.left * width + spot.right in
    let div = seven_div cell (code_of spot.begun) (code_below spot.begun) in
    let left_over = seven_mod cell (code_of spot.begun) (code_below spot.begun) in
    same_spot _ spot.left _ spot.right _ spot.begun
    (ap (λ x. x / width) div ∙ cell_left width spot.left spot.right l)
    (ap (λ x. x % width) div ∙ cell_right width spot.left spot.right l)
    (ap beginning_of left_over ∙ of_code spot.begun)

-- ---- some element of some lists

module _ {X : Type 0} where
  any_agree : (p q : X → Bool) (P : X → Type 0) → ((x : X) → P x → p x ≡ q x) → (xs : List X) → All P xs → list_any p xs ≡ list_any q xs
  any_agree p q P agree [] all = refl
  any_agree p q P agree (x ∷ xs) all = ap (λ t. t || list_any p xs) (agree x (All-head P x xs all)) ∙ ap (λ t. q x || t) (any_agree p q P agree xs (All-tail P x xs all))

  any_false : (xs : List X) → list_any (λ (_ : X). false) xs ≡ false
  any_false [] = refl
  any_false (x ∷ xs) = any_false xs

  any_and : (c : Bool) (f : X → Bool) (xs : List X) → list_any (λ x. c && f x) xs ≡ (c && list_any f xs)
  any_and true f xs = refl
  any_and false f xs = any_false xs

  any_and_right : (c : Bool) (f : X → Bool) (xs : List X) → list_any (λ x. f x && c) xs ≡ (list_any f xs && c)
  any_and_right c f [] = refl
  any_and_right c f (x ∷ xs) = ap (λ t. (f x && c) || t) (any_and_right c f xs) ∙ spread (f x) (list_any f xs) c
    where
      spread : (a b c : Bool) → ((a && c) || (b && c)) ≡ ((a || b) && c)
      spread true true true = refl
      spread true true false = refl
      spread true false true = refl
      spread true false false = refl
      spread false b c = refl

any_flat : {X : Type 0} (p : ℕ → Bool) (f : X → List ℕ) (xs : List X) → list_any p (flat_map f xs) ≡ list_any (λ x. list_any p (f x)) xs
any_flat p f [] = refl
any_flat p f (x ∷ xs) = list_any-append p (f x) (flat_map f xs) ∙ ap (λ t. list_any p (f x) || t) (any_flat p f xs)

-- the parts of a step, apart
parted : (m ta tb g ma mb : Bool) → ((m && ta && tb) && (g && (ma && mb))) ≡ (((m && g) && (ta && ma)) && (tb && mb))
parted false ta tb g ma mb = refl
parted true false tb true ma mb = refl
parted true false tb false ma mb = refl
parted true true false true true mb = refl
parted true true false true false mb = refl
parted true true false false ma mb = refl
parted true true true true true mb = refl
parted true true true true false mb = refl
parted true true true false ma mb = refl

begun_on : (s : Beginning) (b : ℕ) → is_nothing (beginning_after s b) ≡ false
begun_on Nothing b = by (b == 46)
  where
    by : (t : Bool) → is_nothing (if t then Dot else Other) ≡ false
    by true = refl
    by false = refl
begun_on Dot b = by (b == 46) (b == 35)
  where
    by : (t u : Bool) → is_nothing (if t then TwoDots else if u then DotHash else Other) ≡ false
    by true u = refl
    by false true = refl
    by false false = refl
begun_on TwoDots b = refl
begun_on DotHash b = by (b == 116)
  where
    by : (t : Bool) → is_nothing (if t then DotHashT else Other) ≡ false
    by true = refl
    by false = refl
begun_on DotHashT b = by (b == 102)
  where
    by : (t : Bool) → is_nothing (if t then DotHashTf else Other) ≡ false
    by true = refl
    by false = refl
begun_on DotHashTf b = refl
begun_on Other b = refl

-- ---- the words

module _ (a b : List Element) where
  abbrev width : ℕ
  width = length b + 1

  -- what a place reads
  abbrev pub read_at : Spot → List ℕ → Bool
  read_at spot word = goes_on spot.begun word && (name_matches (drop spot.left a) (is_nothing spot.begun) word && name_matches (drop spot.right b) (is_nothing spot.begun) word)

  behind_inside : (es : List Element) (k : ℕ) → k < length es → behind es k ≤ length es
  behind_inside es k l = by (is_many (element_at es k))
    where
      by : (t : Bool) → (if t then k else k + 1) ≤ length es
      by true = omega arith
      by false = omega arith

  by_target : (p : ℕ → Bool) (t : Bool) (n : ℕ) → list_any p (option_to_list (if t then Some n else None)) ≡ (t && p n)
  by_target p true n = or-false (p n)
  by_target p false n = refl

  pub pair_reads : (word : List ℕ) (spot : Spot) → spot.left ≤ length a → spot.right ≤ length b → reads (pair_machine a b) (number_of (length b + 1) spot) word ≡ read_at spot word
  pair_reads [] spot l r =
      ap (ends_at a b) (spot_number (length b + 1) spot (omega arith))
      ∙ sym (and_assoc (may_end spot.begun) (past_stars a spot.left == length a) (past_stars b spot.right == length b))
      ∙ ap (λ x. may_end spot.begun && (x && (past_stars b spot.right == length b))) (sym (none_left a spot.left (is_nothing spot.begun) l))
      ∙ ap (λ x. may_end spot.begun && (name_matches (drop spot.left a) (is_nothing spot.begun) [] && x)) (sym (none_left b spot.right (is_nothing spot.begun) r))
  pair_reads (c ∷ word) spot l r =
      ap (λ s. list_any (λ to. reads (pair_machine a b) to word) (spots_after a b s c)) (spot_number (length b + 1) spot (omega arith))
      ∙ any_flat (λ to. reads (pair_machine a b) to word) (λ i. flat_map (λ j. option_to_list (target a b spot.begun i j c)) (takers b spot.right)) (takers a spot.left)
      ∙ any_agree _ (λ i. ((may_follow spot.begun c && goes_on (beginning_after spot.begun c) word) && taken_at a (is_nothing spot.begun) c word i) && name_matches (drop spot.right b) (is_nothing spot.begun) (c ∷ word))
      (λ i. i < length a) (λ i inside. left_step i inside (λ s p q. pair_reads word s p q)) (takers a spot.left) (takers-inside a spot.left)
      ∙ any_and_right (name_matches (drop spot.right b) (is_nothing spot.begun) (c ∷ word)) (λ i. (may_follow spot.begun c && goes_on (beginning_after spot.begun c) word) && taken_at a (is_nothing spot.begun) c word i) (takers a spot.left)
      ∙ ap (λ x. x && name_matches (drop spot.right b) (is_nothing spot.begun) (c ∷ word)) (any_and (may_follow spot.begun c && goes_on (beginning_after spot.begun c) word) (taken_at a (is_nothing spot.begun) c word) (takers a spot.left))
      ∙ ap (λ x. ((may_follow spot.begun c && goes_on (beginning_after spot.begun c) word) && x) && name_matches (drop spot.right b) (is_nothing spot.begun) (c ∷ word)) (sym (taken a (is_nothing spot.begun) c word spot.left))
      ∙ sym (and_assoc (may_follow spot.begun c && goes_on (beginning_after spot.begun c) word) (name_matches (drop spot.left a) (is_nothing spot.begun) (c ∷ word)) (name_matches (drop spot.right b) (is_nothing spot.begun) (c ∷ word)))
    where
      first : Bool
      first = is_nothing spot.begun

      Hypothesis : Type 0
      Hypothesis = (s : Spot) → s.left ≤ length a → s.right ≤ length b → reads (pair_machine a b) (number_of (length b + 1) s) word ≡ read_at s word

      right_step : (i j : ℕ) → i < length a → j < length b → ((s : Spot) → s.left ≤ length a → s.right ≤ length b → reads (pair_machine a b) (number_of (length b + 1) s) word ≡ read_at s word)
          → list_any (λ to. reads (pair_machine a b) to word) (option_to_list (target a b spot.begun i j c))
          ≡ (((may_follow spot.begun c && goes_on (beginning_after spot.begun c) word) && taken_at a (is_nothing spot.begun) c word i) && taken_at b (is_nothing spot.begun) c word j)
      right_step i j inside_a inside_b known =
          let next : Spot = record { left = behind a i; right = behind b j; begun = beginning_after spot.begun c } in
          by_target (λ to. reads (pair_machine a b) to word) (may_follow spot.begun c && takes (element_at a i) (is_nothing spot.begun) c && takes (element_at b j) (is_nothing spot.begun) c) (number_of (length b + 1) next)
          ∙ ap (λ x. (may_follow spot.begun c && takes (element_at a i) (is_nothing spot.begun) c && takes (element_at b j) (is_nothing spot.begun) c) && x)
          (known next (behind_inside a i inside_a) (behind_inside b j inside_b)
          ∙ ap (λ (f : Bool). goes_on (beginning_after spot.begun c) word && (name_matches (drop (behind a i) a) f word && name_matches (drop (behind b j) b) f word)) (begun_on spot.begun c))
          ∙ parted (may_follow spot.begun c) (takes (element_at a i) (is_nothing spot.begun) c) (takes (element_at b j) (is_nothing spot.begun) c) (goes_on (beginning_after spot.begun c) word)
          (name_matches (drop (behind a i) a) false word) (name_matches (drop (behind b j) b) false word)

      left_step : (i : ℕ) → i < length a → ((s : Spot) → s.left ≤ length a → s.right ≤ length b → reads (pair_machine a b) (number_of (length b + 1) s) word ≡ read_at s word)
          → list_any (λ to. reads (pair_machine a b) to word) (flat_map (λ j. option_to_list (target a b spot.begun i j c)) (takers b spot.right))
          ≡ (((may_follow spot.begun c && goes_on (beginning_after spot.begun c) word) && taken_at a (is_nothing spot.begun) c word i) && name_matches (drop spot.right b) (is_nothing spot.begun) (c ∷ word))
      left_step i inside known =
          any_flat (λ to. reads (pair_machine a b) to word) (λ j. option_to_list (target a b spot.begun i j c)) (takers b spot.right)
          ∙ any_agree _ (λ j. ((may_follow spot.begun c && goes_on (beginning_after spot.begun c) word) && taken_at a (is_nothing spot.begun) c word i) && taken_at b (is_nothing spot.begun) c word j)
          (λ j. j < length b) (λ j inside_b. right_step i j inside inside_b known) (takers b spot.right) (takers-inside b spot.right)
          ∙ any_and ((may_follow spot.begun c && goes_on (beginning_after spot.begun c) word) && taken_at a (is_nothing spot.begun) c word i) (taken_at b (is_nothing spot.begun) c word) (takers b spot.right)
          ∙ ap (λ x. ((may_follow spot.begun c && goes_on (beginning_after spot.begun c) word) && taken_at a (is_nothing spot.begun) c word i) && x) (sym (taken b (is_nothing spot.begun) c word spot.right))

  -- the words of the machine are the names of any length that both components match
  pub pair_words : (word : List ℕ) → reads (pair_machine a b) 0 word ≡ is_shared a b word
  pair_words word =
      let start : Spot = record { left = 0; right = 0; begun = Nothing } in
      let zero_is : 0 ≡ number_of (length b + 1) start = omega arith in
      ap (λ n. reads (pair_machine a b) n word) zero_is
      ∙ pair_reads word start (omega arith) (omega arith)
      ∙ ap (λ x. x && (component_matches a word && component_matches b word)) (goes_on-nothing word)
      ∙ and_assoc (could_be_name word) (component_matches a word) (component_matches b word)
