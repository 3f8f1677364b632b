-- The search of a machine goes from one level to the next, and from the last to the first word that is read.
use Rattle.std.proofs.Common.{◌≡◌, ℕ, zero, suc, ◌+◌, ◌<◌, ◌≤◌, inl, inr, Bool, true, false, List, [], ◌∷◌, ◌++◌, length, map, get_or, Contains, Option, Some, None, is_some, replicate, is_none, cond, refl, sym, ap, ◌∙◌, subst, arith}
use Rattle.std.proofs.lemmas.List.{length-append, length-map, map_push, map-append, append_assoc, append-nil, length-replicate}
use Rattle.std.proofs.lemmas.List.Elements.{Contains-push_cases, Contains-push, Contains-append_left, All-push, All-nil}
use Rattle.std.proofs.lemmas.Bool.Decides.{nat_tests}
use Rattle.std.proofs.lemmas.List.Folds.{sum_by-replicate}
use Rattle.std.proofs.lemmas.List.Sums.{sum_by-cons}
use Rattle.std.specs.Ordering.{is_gt}
use Rattle.std.proofs.lemmas.Option.{same_Some}
use Rattle.pv_glob.specs.declared.moves.Move.{Move}
use Rattle.pv_glob.specs.Machines.{Machine, reads, goes_by, targets}
use Rattle.pv_glob.specs.Search.{Found, word_at, unfound, Leads, HasUpTo, Covers, IsSearched, Noted, Asked, FirstEnd}
use Rattle.pv_glob.specs.Words.{rank, shortlex, word_cmp, IsFirst}
use Rattle.pv_glob.proofs.Members.{any_here, any_has, target_move, move_target, contains_none, contains_here, contains_cases}
use Rattle.pv_glob.proofs.Shortlex.{same_is_first, other_is_first, first_trans, shorter_is_first, first_is_short, first_followed}

-- a word that leads to a place leads on by a move
pub leads_on : (machine : Machine) (word : List ℕ) (at : ℕ) (moves : List Move) → ((b : ℕ) → targets moves b ≡ machine.after at b) → Leads machine word at
    → (move : Move) (b : ℕ) → b < 256 → Contains moves move → goes_by b move ≡ true → Leads machine (word ++ rank b ∷ []) move.to
leads_on machine word at moves is leads move b byte c goes = (
  leads.0 ++ b ∷ [],
  All-push (λ b. b < 256) leads.0 b leads.1 byte,
  map_push rank leads.0 b ∙ ap (λ (r : List ℕ). r ++ rank b ∷ []) leads.2,
  λ rest e. ap (reads machine 0) (append_assoc leads.0 (b ∷ []) rest)
      ∙ leads.3 (b ∷ rest) (any_here (λ to. reads machine to rest) (machine.after at b) move.to (subst (λ (xs : List ℕ). Contains xs move.to) (is b) (move_target moves b move c goes)) e),
)

module _ (machine : Machine) (from : Found) (level done : List ℕ) (found : Found) (next : List ℕ) (was : Asked machine from level done found next) where
  -- a place of the level has its word still
  pub level_word : (at : ℕ) → Contains level at → (at < length found) × ((ranks : List ℕ) × (word_at from at ≡ Some ranks) × (word_at found at ≡ Some ranks) × (length ranks ≡ was.depth))
  level_word at c =
      let w = was.before.level_is at c in
      let size = was.before.size in
      let same = was.ahead.size in
      (omega (arith, w.0, size, same), (w.1.0, w.1.1, was.ahead.keeps at w.1.0 w.1.1, w.1.2))

  pub level_found : (at : ℕ) → Contains level at → is_some (word_at found at) ≡ true
  level_found at c = ap is_some (level_word at c).1.2

  -- one more place of the level was asked
  pub asked_more : (at : ℕ) (word : List ℕ) (moves : List Move) (found' : Found) (next' : List ℕ) → Contains level at → word_at found at ≡ Some word
      → ((b : ℕ) → targets moves b ≡ machine.after at b) → Noted found next word moves found' next' → Asked machine from level (done ++ at ∷ []) found' next'
  asked_more at word moves found' next' c is moves_are noted =
      let w = (level_word at c).1 in
      let same : w.0 ≡ word = same_Some w.0 word (sym w.2 ∙ is) in
      let before : word_at from at ≡ Some word = w.1 ∙ ap Some same in
      record {
        depth = was.depth;
        before = was.before;
        ahead = noted.ahead machine was.depth from was.ahead (λ q ranks e. (was.before.sound q ranks e).0) (sym (ap length same) ∙ w.3)
            (leads_on machine word at moves moves_are (was.before.sound at word before).1);
        all = λ q b to ranks k e t. elim (Contains-push_cases done at q k) [
          | inl old ↦ noted.kept to (ranks ++ rank b ∷ []) (was.all q b to ranks old e t)
          | inr new ↦ (
              let m = target_move moves b to (subst (λ (xs : List ℕ). Contains xs to) (ap (λ x. machine.after x b) (sym new) ∙ sym (moves_are b)) t) in
              let ranks_are : word ≡ ranks = same_Some word ranks (sym before ∙ ap (word_at from) new ∙ e) in
              subst (λ (x : ℕ). HasUpTo found' x (ranks ++ rank b ∷ [])) m.3
              (subst (λ (x : List ℕ). HasUpTo found' m.0.to (x ++ rank b ∷ [])) ranks_are (noted.all m.0 b m.1 m.2)))
        ];
      }

-- no end is on a level that was asked, so each word that is read goes on by the next level
module _ (machine : Machine) (from : Found) (level : List ℕ) (found : Found) (next : List ℕ) (was : Asked machine from level level found next) (no_end : FirstEnd machine from level None) where
  on : (n : ℕ) (word : List ℕ) → length word < n → reads machine 0 word ≡ true → Covers machine found next word
  on zero word l e = absurd (omega arith)
  on (suc n) word l e = by (was.before.covers word e) (λ u k r. on n u k r)
    where
      by_rest : (at : ℕ) (ranks rest : List ℕ) → Contains level at → word_at from at ≡ Some ranks → reads machine at rest ≡ true → is_gt (shortlex (ranks ++ map rank rest) (map rank word)) ≡ false → ((u : List ℕ) → length u < n → reads machine 0 u ≡ true → Covers machine found next u) → Covers machine found next word
      by_rest at ranks [] c is r first shorter = absurd (let none = no_end at c in let differ : false ≡ true = sym none ∙ r in cc)
      by_rest at ranks (b ∷ rest) c is r first shorter =
          let step = any_has (λ to. reads machine to rest) (machine.after at b) r in
          let to = step.0 in
          let has = was.all at b to ranks c is step.1 in
          let on_by : is_gt (shortlex (has.0 ++ map rank rest) ((ranks ++ rank b ∷ []) ++ map rank rest)) ≡ false = first_followed has.0 (ranks ++ rank b ∷ []) (map rank rest) has.2 in
          let upto : is_gt (shortlex (has.0 ++ map rank rest) (map rank word)) ≡ false =
          first_trans (has.0 ++ map rank rest) (ranks ++ map rank (b ∷ rest)) (map rank word) (ap (λ x. is_gt (shortlex (has.0 ++ map rank rest) x)) (sym (append_assoc ranks (rank b ∷ []) (map rank rest))) ∙ on_by) first in
          elim (was.ahead.fresh to has.0 has.1) [
            | inl old ↦ (
                let sound = was.before.sound to has.0 old in
                let u = sound.1.0 ++ rest in
                let spelled : map rank u ≡ has.0 ++ map rank rest = map-append rank sound.1.0 rest ∙ ap (λ x. x ++ map rank rest) sound.1.2 in
                let w = was.before.level_is at c in
                let same : w.1.0 ≡ ranks = same_Some w.1.0 ranks (sym w.1.1 ∙ is) in
                let long : length ranks ≡ was.depth = sym (ap length same) ∙ w.1.2 in
                let less : length u < length word =
                (let a = first_is_short (ranks ++ map rank (b ∷ rest)) (map rank word) first in
                omega (arith, a, long, sound.0, length-append ranks (map rank (b ∷ rest)), length-append sound.1.0 rest, length-map rest rank, length-map word rank, length-map sound.1.0 rank, ap length sound.1.2)) in
                let covered = shorter u (omega arith) (sound.1.3 rest step.2) in (
                  covered.0,
                  covered.1,
                  covered.2,
                  covered.3,
                  covered.4,
                  covered.5,
                  first_trans (covered.1 ++ map rank covered.2) (map rank u) (map rank word) covered.6 (ap (λ x. is_gt (shortlex x (map rank word))) spelled ∙ upto),
                ))
            | inr new ↦ (to, has.0, rest, new.2, has.1, step.2, upto)
          ]

      by : Covers machine from level word → ((u : List ℕ) → length u < n → reads machine 0 u ≡ true → Covers machine found next u) → Covers machine found next word
      by w shorter = by_rest w.0 w.1 w.2 w.3 w.4 w.5 w.6 shorter

  pub asked_all : IsSearched machine found next
  asked_all = (
    was.depth + 1,
    record {
      size = was.ahead.size ∙ was.before.size;
      sound = λ at ranks e. elim (was.ahead.fresh at ranks e) [
        | inl old ↦ (let s = was.before.sound at ranks old in (let l = s.0 in omega arith, s.1))
        | inr new ↦ (let l = new.0 in omega arith, new.1)
      ];
      level_is = λ at c. (let w = was.ahead.lists at c in (let l = w.0 in let size = was.before.size in omega arith, w.1));
      covers = λ word e. on (length word + 1) word (omega arith) e;
    },
  )

-- ---- the ends of a level

module _ (machine : Machine) (found : Found) (level : List ℕ) (searched : IsSearched machine found level) where
  pub place_inside : (at : ℕ) → Contains level at → (at < machine.places) × (at < length found)
  place_inside at c = let l = (searched.1.level_is at c).0 in let size = searched.1.size in (l, omega arith)

  pub place_found : (at : ℕ) → Contains level at → is_some (word_at found at) ≡ true
  place_found at c = ap is_some (searched.1.level_is at c).1.1

module _ (machine : Machine) (found : Found) (places : List ℕ) (at : ℕ) where
  -- a place that is no end changes nothing
  pub end_passed : (first : Option (List ℕ)) → FirstEnd machine found places first → machine.is_end at ≡ false → FirstEnd machine found (places ++ at ∷ []) first
  end_passed None was none = λ q c. elim (Contains-push_cases places at q c) [ inl k ↦ was q k | inr e ↦ ap machine.is_end (sym e) ∙ none ]
  end_passed (Some first) was none = (
    (was.0.0, Contains-append_left places (at ∷ []) was.0.0 was.0.1, was.0.2, was.0.3),
    λ q ranks c is r. elim (Contains-push_cases places at q c) [
      | inl k ↦ was.1 q ranks k is r
      | inr e ↦ absurd (let differ : false ≡ true = sym none ∙ ap machine.is_end e ∙ is in cc)
    ],
  )

  module _ (word : List ℕ) (is_end : machine.is_end at ≡ true) (is : word_at found at ≡ Some word) where
    -- an end with a later word changes nothing
    pub end_later : (first : List ℕ) → FirstEnd machine found places (Some first) → is_gt (shortlex first word) ≡ false → FirstEnd machine found (places ++ at ∷ []) (Some first)
    end_later first was order = (
      (was.0.0, Contains-append_left places (at ∷ []) was.0.0 was.0.1, was.0.2, was.0.3),
      λ q ranks c e r. elim (Contains-push_cases places at q c) [
        | inl k ↦ was.1 q ranks k e r
        | inr s ↦ (let same : word ≡ ranks = same_Some word ranks (sym is ∙ ap (word_at found) s ∙ r) in ap (λ x. is_gt (shortlex first x)) (sym same) ∙ order)
      ],
    )

    -- an end with an earlier word, or the first one
    pub end_first : (first : Option (List ℕ)) → FirstEnd machine found places first → ((old : List ℕ) → first ≡ Some old → is_gt (shortlex old word) ≡ true) → FirstEnd machine found (places ++ at ∷ []) (Some word)
    end_first first was order = (
      (at, Contains-push places at, is_end, is),
      λ q ranks c e r. elim (Contains-push_cases places at q c) [
        | inl k ↦ before first was order q ranks k e r
        | inr s ↦ (let same : word ≡ ranks = same_Some word ranks (sym is ∙ ap (word_at found) s ∙ r) in ap (λ x. is_gt (shortlex word x)) (sym same) ∙ same_is_first word)
      ],
    )
      where
        before : (first : Option (List ℕ)) → FirstEnd machine found places first → ((old : List ℕ) → first ≡ Some old → is_gt (shortlex old word) ≡ true)
            → (q : ℕ) (ranks : List ℕ) → Contains places q → machine.is_end q ≡ true → word_at found q ≡ Some ranks → is_gt (shortlex word ranks) ≡ false
        before None was order q ranks k e r = absurd (let differ : false ≡ true = sym (was q k) ∙ e in cc)
        before (Some old) was order q ranks k e r = first_trans word old ranks (other_is_first old word (order old refl)) (was.1 q ranks k e r)

-- ---- the first and the last level

rank-same : (a b : ℕ) → rank a ≡ rank b → a ≡ b
rank-same a b e = grind (arith, nat_tests)

ranks-same : (u v : List ℕ) → map rank u ≡ map rank v → u ≡ v
ranks-same [] [] e = refl
ranks-same [] (b ∷ v) e = absurd (let l = ap length e in omega arith)
ranks-same (a ∷ u) [] e = absurd (let l = ap length e in omega arith)
ranks-same (a ∷ u) (b ∷ v) e =
    let head : rank a ≡ rank b = cc in
    let tail : map rank u ≡ map rank v = cc in
    ap (λ x. x ∷ u) (rank-same a b head) ∙ ap (λ (x : List ℕ). b ∷ x) (ranks-same u v tail)

-- before the first query only the start has a word, which is empty
pub starts : (machine : Machine) (others : ℕ) → machine.places ≡ others + 1 → IsSearched machine (Some [] ∷ replicate others None) (0 ∷ [])
starts machine others places = (
  0,
  record {
    size = ap suc (length-replicate others None) ∙ (let e : suc others ≡ machine.places = omega (arith, places) in e);
    sound = sound;
    level_is = λ at c. elim (contains_cases 0 at [] c) [ inl e ↦ at_start at e | inr n ↦ absurd (contains_none at n) ];
    covers = λ word e. (0, [], word, contains_here 0 [], refl, e, same_is_first (map rank word));
  },
)
  where
    none_else : (n k : ℕ) → get_or {A = Option (List ℕ)} (replicate n None) k None ≡ None
    none_else zero k = refl
    none_else (suc n) zero = refl
    none_else (suc n) (suc k) = none_else n k

    sound : (at : ℕ) (ranks : List ℕ) → word_at (Some [] ∷ replicate others None) at ≡ Some ranks → (length ranks ≤ 0) × Leads machine ranks at
    sound zero ranks e =
        let same : [] ≡ ranks = same_Some [] ranks e in
        subst (λ (x : List ℕ). (length x ≤ 0) × Leads machine x 0) same (omega arith, ([], All-nil (λ b. b < 256), refl, λ rest r. r))
    sound (suc at) ranks e = absurd (let differ : ◌≡◌ {A = Option (List ℕ)} None (Some ranks) = sym (none_else others at) ∙ e in cc)

    at_start : (at : ℕ) → 0 ≡ at → (at < machine.places) × ((ranks : List ℕ) × (word_at (Some [] ∷ replicate others None) at ≡ Some ranks) × (length ranks ≡ 0))
    at_start zero e = (omega (arith, places), ([], refl, refl))
    at_start (suc at) e = absurd (omega arith)

module _ (machine : Machine) (found : Found) (level : List ℕ) (searched : IsSearched machine found level) where
  -- without a level no word is read
  pub none_read : level ≡ [] → (word : List ℕ) → reads machine 0 word ≡ false
  none_read e word = by (reads machine 0 word) refl
    where
      by : (t : Bool) → reads machine 0 word ≡ t → t ≡ false
      by true is = absurd (let w = searched.1.covers word is in contains_none w.0 (subst (λ (xs : List ℕ). Contains xs w.0) e w.3))
      by false is = refl

  module _ (first : List ℕ) (is_first : FirstEnd machine found level (Some first)) where
    -- the first word of an end leads there
    pub end_leads : Leads machine first is_first.0.0
    end_leads = (searched.1.sound is_first.0.0 first is_first.0.3).1

    -- it is the first word that is read
    pub first_read : (word : List ℕ) → map rank word ≡ first → IsFirst word_cmp (reads machine 0) word
    first_read word e = record {
      passes = (let same = ranks-same word end_leads.0 (e ∙ sym end_leads.2) in
          ap (reads machine 0) (same ∙ sym (append-nil end_leads.0)) ∙ end_leads.3 [] is_first.0.2);
      least = λ other r. ap (λ x. is_gt (shortlex x (map rank other))) e ∙ by_cover other (searched.1.covers other r);
    }
      where
        long : length first ≡ searched.0
        long =
            let w = searched.1.level_is is_first.0.0 is_first.0.1 in
            ap length (same_Some first w.1.0 (sym is_first.0.3 ∙ w.1.1)) ∙ w.1.2

        by_rest : (other : List ℕ) (at : ℕ) (ranks rest : List ℕ) → Contains level at → word_at found at ≡ Some ranks → reads machine at rest ≡ true
            → is_gt (shortlex (ranks ++ map rank rest) (map rank other)) ≡ false → is_gt (shortlex first (map rank other)) ≡ false
        by_rest other at ranks [] c is r order =
            first_trans first ranks (map rank other) (is_first.1 at ranks c r is) (ap (λ x. is_gt (shortlex x (map rank other))) (sym (append-nil ranks)) ∙ order)
        by_rest other at ranks (b ∷ rest) c is r order =
            let w = searched.1.level_is at c in
            let same : length ranks ≡ searched.0 = ap length (same_Some ranks w.1.0 (sym is ∙ w.1.1)) ∙ w.1.2 in
            first_trans first (ranks ++ map rank (b ∷ rest)) (map rank other)
            (shorter_is_first first (ranks ++ map rank (b ∷ rest)) (omega (arith, long, same, length-append ranks (map rank (b ∷ rest))))) order

        by_cover : (other : List ℕ) → Covers machine found level other → is_gt (shortlex first (map rank other)) ≡ false
        by_cover other w = by_rest other w.0 w.1 w.2 w.3 w.4 w.5 w.6

abbrev tally : Option (List ℕ) → ℕ
tally o = cond (is_none o) 1 0

-- before the first query all places but the start have no word
pub unfound-start : (others : ℕ) → unfound (Some [] ∷ replicate others None) ≡ others
unfound-start others =
    let first = sum_by-cons tally (Some []) (replicate others None) in
    let rest = sum_by-replicate tally others None in
    omega (arith, first, rest)
