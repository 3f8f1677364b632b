-- Runs of bytes tell where each byte leads.
use Rattle.std.proofs.Common.{◌≡◌, ◌⊎◌, ℕ, ◌+◌, ◌<◌, ◌≤◌, inl, inr, Bool, true, false, take, cond, List, [], ◌∷◌, ◌++◌, length, map, filter, nat_lt, Option, Some, None, option_map, refl, sym, ap, ◌∙◌, subst, arith, if◌then◌else◌}
use Rattle.std.proofs.lemmas.List.{map-append, append_assoc, append-nil, take_at}
use Rattle.std.proofs.lemmas.List.Elements.{filter-append, All-push, All-append, All-nil, All-cons, All-same, All-take, All-contains, Contains-push}
use Rattle.std.proofs.lemmas.Bool.Decides.{nat_tests}
use Rattle.std.specs.Option.{option_to_list}
use Rattle.pv_glob.specs.declared.moves.Move.{Move}
use Rattle.pv_glob.specs.Machines.{AllInside, goes_by, targets}

pub targets-append : (xs ys : List Move) (b : ℕ) → targets (xs ++ ys) b ≡ targets xs b ++ targets ys b
targets-append xs ys b = ap (map (λ (m : Move). m.to)) (filter-append (goes_by b) xs ys) ∙ map-append (λ (m : Move). m.to) (filter (goes_by b) xs) (filter (goes_by b) ys)

-- what is told of the bytes below a number
abbrev pub told_below : (ℕ → Option ℕ) → ℕ → ℕ → List ℕ
told_below t n b = if nat_lt b n then option_to_list (t b) else []

-- the moves and the run tell where the bytes below a number lead
pub record Running (t : ℕ → Option ℕ) (places : ℕ) (n : ℕ) (old moves : List Move) (run : Option Move) : Type 0 where
  pub stated : (b : ℕ) → targets (moves ++ option_to_list run) b ≡ targets old b ++ told_below t n b
  pub ends : (r : Move) → run ≡ Some r → (r.high + 1 ≡ n) × (r.low ≤ r.high)
  pub inside : AllInside places old → AllInside places (moves ++ option_to_list run)

module _ (t : ℕ → Option ℕ) (places : ℕ) where
  abbrev tells : Move → ℕ → List ℕ
  tells r b = targets (r ∷ []) b

  tells_yes : (r : Move) (b : ℕ) → goes_by b r ≡ true → tells r b ≡ r.to ∷ []
  tells_yes r b e = ap (λ (x : Bool). map (λ (m : Move). m.to) (cond x (r ∷ []) [])) e

  tells_no : (r : Move) (b : ℕ) → goes_by b r ≡ false → tells r b ≡ []
  tells_no r b e = ap (λ (x : Bool). map (λ (m : Move). m.to) (cond x (r ∷ []) [])) e

  -- the same of the bytes from one number to another
  module _ (n m : ℕ) (later : n ≤ m) (old moves : List Move) where
    told_here : (b : ℕ) → n ≤ b → b ≤ m → told_below t (m + 1) b ≡ option_to_list (t b)
    told_here b low high = let l : nat_lt b (m + 1) ≡ true = grind (arith, nat_tests) in ap (λ (x : Bool). if x then option_to_list (t b) else []) l

    told_not_here : (b : ℕ) → n ≤ b → told_below t n b ≡ []
    told_not_here b low = let l : nat_lt b n ≡ false = grind (arith, nat_tests) in ap (λ (x : Bool). if x then option_to_list (t b) else []) l

    told_same : (b : ℕ) → ((b < n) ⊎ (m < b)) → told_below t (m + 1) b ≡ told_below t n b
    told_same b (inl l) = let e : nat_lt b (m + 1) ≡ nat_lt b n = grind (arith, nat_tests) in ap (λ (x : Bool). if x then option_to_list (t b) else []) e
    told_same b (inr l) = let e : nat_lt b (m + 1) ≡ nat_lt b n = grind (arith, nat_tests) in ap (λ (x : Bool). if x then option_to_list (t b) else []) e

    -- where a byte is
    place_of : (b : ℕ) → ((n ≤ b) × (b ≤ m)) ⊎ ((b < n) ⊎ (m < b))
    place_of b = by (nat_lt b n) (nat_lt m b) refl refl
      where
        by : (x y : Bool) → nat_lt b n ≡ x → nat_lt m b ≡ y → ((n ≤ b) × (b ≤ m)) ⊎ ((b < n) ⊎ (m < b))
        by true y e f = inr (inl (grind (arith, nat_tests)))
        by false true e f = inr (inr (grind (arith, nat_tests)))
        by false false e f = inl ((let l : n ≤ b = grind (arith, nat_tests) in l), (let l : b ≤ m = grind (arith, nat_tests) in l))

    pub running_longer : (r : Move) → Running t places n old moves (Some r) → ((b : ℕ) → n ≤ b → b ≤ m → t b ≡ Some r.to) → Running t places (m + 1) old moves (Some (record r { high = m }))
    running_longer r was e = record {
      stated = λ b. stated b (place_of b);
      ends = λ s h. (let same : record r { high = m } ≡ s = cc in let high : m ≡ s.high = ap (λ (x : Move). x.high) same in let low : r.low ≡ s.low = ap (λ (x : Move). x.low) same in
          let w = was.ends r refl in (omega arith, (let a = w.0 in let b = w.1 in omega arith)));
      inside = λ all. inside_longer (was.inside all);
    }
      where
        longer : Move
        longer = record r { high = m }

        before : (b : ℕ) → targets moves b ++ tells r b ≡ targets old b ++ told_below t n b
        before b = sym (targets-append moves (r ∷ []) b) ∙ was.stated b

        goes_same : (b : ℕ) → ((b < n) ⊎ (m < b)) → goes_by b (record r { high = m }) ≡ goes_by b r
        goes_same b (inl l) = let w = was.ends r refl in let w0 = w.0 in let w1 = w.1 in grind (arith, nat_tests)
        goes_same b (inr l) = let w = was.ends r refl in let w0 = w.0 in let w1 = w.1 in grind (arith, nat_tests)

        stated : (b : ℕ) → (((n ≤ b) × (b ≤ m)) ⊎ ((b < n) ⊎ (m < b))) → targets (moves ++ record r { high = m } ∷ []) b ≡ targets old b ++ told_below t (m + 1) b
        stated b (inl here) =
            let low = here.0 in let high = here.1 in
            let w = was.ends r refl in let w0 = w.0 in let w1 = w.1 in
            let shut : goes_by b r ≡ false = grind (arith, nat_tests) in
            let open' : goes_by b (record r { high = m }) ≡ true = grind (arith, nat_tests) in
            let same : targets moves b ≡ targets old b =
            sym (append-nil (targets moves b)) ∙ ap (λ x. targets moves b ++ x) (sym (tells_no r b shut)) ∙ before b ∙ ap (λ x. targets old b ++ x) (told_not_here b low) ∙ append-nil (targets old b) in
            targets-append moves (record r { high = m } ∷ []) b ∙ ap (λ x. targets moves b ++ x) (tells_yes (record r { high = m }) b open') ∙ ap (λ x. x ++ r.to ∷ []) same
            ∙ ap (λ x. targets old b ++ x) (sym (told_here b low high ∙ ap option_to_list (e b low high)))
        stated b (inr other) =
            targets-append moves (record r { high = m } ∷ []) b ∙ ap (λ x. targets moves b ++ x) (ap (λ (x : Bool). map (λ (m : Move). m.to) (cond x (record r { high = m } ∷ []) [])) (goes_same b other) ∙ by (goes_by b r)) ∙ before b
            ∙ ap (λ x. targets old b ++ x) (sym (told_same b other))
          where
            by : (x : Bool) → map (λ (m : Move). m.to) (cond x (record r { high = m } ∷ []) []) ≡ map (λ (m : Move). m.to) (cond x (r ∷ []) [])
            by true = refl
            by false = refl

        inside_longer : AllInside places (moves ++ r ∷ []) → AllInside places (moves ++ record r { high = m } ∷ [])
        inside_longer all = All-push (λ (m : Move). m.to < places) moves (record r { high = m })
            (All-same (λ (m : Move). m.to < places) moves (take (length moves) (moves ++ r ∷ [])) (sym (take_at moves (r ∷ []) (length moves) refl)) (All-take (λ (m : Move). m.to < places) (length moves) (moves ++ r ∷ []) all))
            (All-contains (λ (m : Move). m.to < places) (moves ++ r ∷ []) r all (Contains-push moves r))

    abbrev begun : Option ℕ → Option Move
    begun o = option_map (λ to. record { low = n; high = m; to = to }) o

    pub running_fresh : (run : Option Move) → Running t places n old moves run → ((b : ℕ) → n ≤ b → b ≤ m → t b ≡ t n) → ((to : ℕ) → t n ≡ Some to → to < places) → Running t places (m + 1) old (moves ++ option_to_list run) (begun (t n))
    running_fresh run was alike below = record {
      stated = λ b. targets-append (moves ++ option_to_list run) (option_to_list (begun (t n))) b ∙ ap (λ x. x ++ targets (option_to_list (begun (t n))) b) (was.stated b)
          ∙ append_assoc (targets old b) (told_below t n b) (targets (option_to_list (begun (t n))) b) ∙ ap (λ x. targets old b ++ x) (fresh b (place_of b));
      ends = λ s h. ends (t n) s h;
      inside = λ all. All-append (λ (m : Move). m.to < places) (moves ++ option_to_list run) (option_to_list (begun (t n))) (was.inside all) (inside (t n) below);
    }
      where
        here : (o : Option ℕ) (b : ℕ) → n ≤ b → b ≤ m → targets (option_to_list (option_map (λ to. record { low = n; high = m; to = to }) o)) b ≡ option_to_list o
        here None b low high = refl
        here (Some to) b low high = let r : Move = record { low = n; high = m; to = to } in let open' : goes_by b r ≡ true = grind (arith, nat_tests) in tells_yes r b open'

        there : (o : Option ℕ) (b : ℕ) → ((b < n) ⊎ (m < b)) → targets (option_to_list (option_map (λ to. record { low = n; high = m; to = to }) o)) b ≡ []
        there None b other = refl
        there (Some to) b (inl l) = let r : Move = record { low = n; high = m; to = to } in let shut : goes_by b r ≡ false = grind (arith, nat_tests) in tells_no r b shut
        there (Some to) b (inr l) = let r : Move = record { low = n; high = m; to = to } in let shut : goes_by b r ≡ false = grind (arith, nat_tests) in tells_no r b shut

        fresh : (b : ℕ) → (((n ≤ b) × (b ≤ m)) ⊎ ((b < n) ⊎ (m < b))) → told_below t n b ++ targets (option_to_list (begun (t n))) b ≡ told_below t (m + 1) b
        fresh b (inl at) = ap (λ x. x ++ targets (option_to_list (begun (t n))) b) (told_not_here b at.0) ∙ here (t n) b at.0 at.1 ∙ ap option_to_list (sym (alike b at.0 at.1)) ∙ sym (told_here b at.0 at.1)
        fresh b (inr other) = ap (λ x. told_below t n b ++ x) (there (t n) b other) ∙ append-nil (told_below t n b) ∙ sym (told_same b other)

        ends : (o : Option ℕ) (s : Move) → option_map (λ to. record { low = n; high = m; to = to }) o ≡ Some s → (s.high + 1 ≡ m + 1) × (s.low ≤ s.high)
        ends None s h = absurd (let differ : ◌≡◌ {A = Option Move} None (Some s) = h in cc)
        ends (Some to) s h =
            let r : Move = record { low = n; high = m; to = to } in
            let same : r ≡ s = cc in
            let high : m ≡ s.high = ap (λ (x : Move). x.high) same in
            let low : n ≡ s.low = ap (λ (x : Move). x.low) same in (omega arith, omega arith)

        inside : (o : Option ℕ) → ((to : ℕ) → o ≡ Some to → to < places) → AllInside places (option_to_list (option_map (λ to. record { low = n; high = m; to = to }) o))
        inside None below = All-nil (λ (m : Move). m.to < places)
        inside (Some to) below = All-cons (λ (m : Move). m.to < places) (record { low = n; high = m; to = to }) [] (below to refl) (All-nil (λ (m : Move). m.to < places))

-- the same for moves and a run that are the same
pub running_same : (t : ℕ → Option ℕ) (places n : ℕ) (old moves moves' : List Move) (run run' : Option Move) → moves' ≡ moves → run' ≡ run → Running t places n old moves run → Running t places n old moves' run'
running_same t places n old moves moves' run run' m r was =
    subst (λ (x : List Move). Running t places n old x run') (sym m) (subst (λ (x : Option Move). Running t places n old moves x) (sym r) was)

-- no name has other bytes than 1 to 255
