-- The changes that a host has made: in a step, in closing a folder, and in many steps, whatever their moments.
use Rattle.std.specs.Prelude.{◌≡◌, ℕ, true, false, cond, List, [], ◌∷◌, ◌++◌, map, Option, Some, None, option_map, Result, Ok, Err, OnOk, OnErr, ◌≤◌, take}
use Rattle.std.specs.Option.{option_to_list}
use Rattle.std.proofs.Common.{refl, sym, ap, subst, ◌∙◌, append-nil, append_assoc, arith}
use Rattle.pv_path.specs.Paths.{Path, is_prefix, rest_under, same_path}
use Rattle.pv_steps.specs.declared.node.Kind.{Kind}
use Rattle.pv_steps.specs.declared.node.Kind.TheVariants as kind
use Rattle.pv_steps.specs.declared.object.Object.{Object}
use Rattle.pv_steps.specs.declared.step.Step.{Step}
use Rattle.pv_steps.specs.declared.step.Step.TheVariants as step
use Rattle.pv_steps.specs.Objects as objects
use Rattle.pv_steps.specs.Trees.{Files, Places, places}
use Rattle.pv_steps.specs.Steps as steps
use Rattle.pv_steps.specs.Steps.{Can, StepFits, after, after_at}
use Rattle.pv_steps.specs.Runs.{Along, after_all}
use Rattle.pv_steps.proofs.StepLaws.{at_after}
use Rattle.pv_folder.specs.Content as host
use Rattle.pv_folder.specs.Content.{Change, Content, HostObject, IsChanged}
use Rattle.pv_folder.specs.declared.host.HostFault.{HostFault}
use Rattle.pv_folder.specs.Folders.{manifest_path, new_manifest_path, real_as, real_of}
use Rattle.pv_folder.specs.Keeping.{IsChangedBy, change_for, changes_for, move, removal}
use Rattle.pv_folder.specs.Made.{AreRecorded, HasMade, made_none, made_on}
use Rattle.pv_folder.specs.Moments.{CanBeDone, changes_of, closing}
use Rattle.pv_folder.proofs.AgreeLaws.{real-gone, real-made, real-mapped, real-on_at, real-touched}

-- what holds anyhow holds after a fault
pub anyhow : {A E : Type 0} (r : Result A E) {X : Type 0} → X → OnErr r X
anyhow (Ok x) h = tt
anyhow (Err e) h = h

-- ---- one change, or none

module _ (a b : Option Content) (l m : Option (List Change)) where
  pub made_same : b ≡ a → m ≡ l → HasMade [] a b l m
  made_same content changes =
      subst (λ (o : Option Content). HasMade [] a o l m) (sym content)
      (subst (λ (o : Option (List Change)). HasMade [] a a l o) (sym changes) (made_none a l))

  pub made_asked : (call : Option Change) → IsChangedBy call a b → AreRecorded (option_to_list call) l m → HasMade (option_to_list call) a b l m
  made_asked (Some change) is recorded = record { recorded = recorded; left = is }
  made_asked None is recorded = record { recorded = recorded; left = ap (option_map host.held) is }

-- ---- closing

module _ (folder n p q : Path) (text : List ℕ) (old mid : Option Content) (before between : Option (List Change))
    (at : n ≡ new_manifest_path folder) (from : p ≡ new_manifest_path folder) (to : q ≡ manifest_path folder)
    (wrote : IsChanged (host.WriteFile n text) old mid) (recorded : AreRecorded (host.WriteFile n text ∷ []) before between) where
  half : HasMade (host.WriteFile (new_manifest_path folder) text ∷ []) old mid before between
  half = subst (λ (r : Path). HasMade (host.WriteFile r text ∷ []) old mid before between) at (record { recorded = recorded; left = wrote })

  module _ (new : Option Content) (now : Option (List Change)) where
    closing_made : IsChanged (host.Rename p q) mid new → AreRecorded (host.Rename p q ∷ []) between now → HasMade (closing folder text) old new before now
    closing_made moved named =
        made_on (host.WriteFile (new_manifest_path folder) text ∷ []) (host.Rename (new_manifest_path folder) (manifest_path folder) ∷ []) old mid new before between now half
        (subst (λ (r : Path). HasMade (host.Rename (new_manifest_path folder) r ∷ []) mid new between now) to
        (subst (λ (r : Path). HasMade (host.Rename r q ∷ []) mid new between now) from (record { recorded = named; left = moved })))

    closing_begun : new ≡ mid → now ≡ between → (k : ℕ) × ((k ≤ 1) × HasMade (take k (closing folder text)) old new before now)
    closing_begun same still = (
      1,
      (
        omega arith,
        subst (λ (o : Option Content). HasMade (host.WriteFile (new_manifest_path folder) text ∷ []) old o before now) (sym same)
            (subst (λ (o : Option (List Change)). HasMade (host.WriteFile (new_manifest_path folder) text ∷ []) old mid before o) (sym still) half),
      ),
    )

    pub closing_asked : (r : Result (Unit {0}) HostFault) → OnOk r (IsChanged (host.Rename p q) mid new) → OnOk r (AreRecorded (host.Rename p q ∷ []) between now)
        → OnOk r (HasMade (closing folder text) old new before now)
    closing_asked (Ok x) moved named = closing_made moved named
    closing_asked (Err e) moved named = tt

    pub closing_part : (r : Result (Unit {0}) HostFault) → OnErr r (new ≡ mid) → OnErr r (now ≡ between)
        → OnErr r ((k : ℕ) × ((k ≤ 1) × HasMade (take k (closing folder text)) old new before now))
    closing_part (Ok x) same still = tt
    closing_part (Err e) same still = closing_begun same still

pub closing_not_begun : (folder : Path) (text : List ℕ) (old new : Option Content) (before after : Option (List Change)) → new ≡ old → after ≡ before
    → (k : ℕ) × ((k ≤ 1) × HasMade (take k (closing folder text)) old new before after)
closing_not_begun folder text old new before after same still = (0, (omega arith, made_same old new before after same still))

-- ---- what steps ask of a host is told by what is real alone

-- what is written to an object of a host
abbrev rewritten : List ℕ → HostObject → HostObject
rewritten bytes host.Directory = host.Directory
rewritten bytes (host.File old) = host.File bytes
rewritten bytes host.Other = host.Other

real-written : (content : List ℕ) (now : ℕ) (o : Option Object) → real_of (option_map (objects.with_content content now) o) ≡ option_map (rewritten content) (real_of o)
real-written content now None = refl
real-written content now (Some o) = by o.node.kind
  where
    by : (k : Kind) → real_as k content ≡ option_map (rewritten content) (real_as k o.payload)
    by kind.Directory = refl
    by kind.File = refl
    by kind.Link = refl
    by kind.Fifo = refl
    by kind.CharDevice = refl
    by kind.BlockDevice = refl

module _ (t u : Places) (same : (q : Path) → real_of (t q) ≡ real_of (u q)) where
  call_like : (top : Path) (s : Step) → change_for top t s ≡ change_for top u s
  call_like top (step.MakeDir p) = refl
  call_like top (step.MakeFile p) = refl
  call_like top (step.MakeFifo p) = refl
  call_like top (step.MakeDevice p block major minor) = refl
  call_like top (step.MakeLink p target) = refl
  call_like top (step.Write p content) = refl
  call_like top (step.SetMode p mode) = refl
  call_like top (step.SetOwner p uid gid) = refl
  call_like top (step.SetAcl p acl) = refl
  call_like top (step.SetAttrs p attrs) = refl
  call_like top (step.SetLetters p letters) = refl
  call_like top (step.SetStamps p access modify) = refl
  call_like top (step.Rename from to) =
      ap (λ o. move (top ++ from) (top ++ to) o (real_of (t to))) (same from) ∙ ap (λ o. move (top ++ from) (top ++ to) (real_of (u from)) o) (same to)
  call_like top (step.Unlink p) = ap (λ o. removal (top ++ p) o) (same p)
  call_like top (step.RemoveDir p) = refl

  module _ (m n : ℕ) (q : Path) where
    made_like : (p : Path) (a b : Object) → real_of (Some a) ≡ real_of (Some b) → real_of (steps.made m p a t q) ≡ real_of (steps.made n p b u q)
    made_like p a b is =
        real-made m p a t q
        ∙ ap (λ o. cond (same_path p q) o (real_of (t q))) is
        ∙ ap (λ o. cond (same_path p q) (real_of (Some b)) o) (same q)
        ∙ sym (real-made n p b u q)

    gone_like : (p : Path) → real_of (steps.gone m p t q) ≡ real_of (steps.gone n p u q)
    gone_like p = real-gone m p t q ∙ ap (λ o. cond (same_path p q) None o) (same q) ∙ sym (real-gone n p u q)

    set_like : (p : Path) (f g : Object → Object) → ((o : Object) → real_as (f o).node.kind (f o).payload ≡ real_as o.node.kind o.payload)
        → ((o : Object) → real_as (g o).node.kind (g o).payload ≡ real_as o.node.kind o.payload) → real_of (steps.on_at p f t q) ≡ real_of (steps.on_at p g u q)
    set_like p f g f_stays g_stays = real-on_at p f f_stays t q ∙ same q ∙ sym (real-on_at p g g_stays u q)

    write_like : (p : Path) (content : List ℕ) → real_of (steps.on_at p (objects.with_content content m) t q) ≡ real_of (steps.on_at p (objects.with_content content n) u q)
    write_like p content =
        elim (same_path p q) as (λ b. real_of (cond b (option_map (objects.with_content content m) (t q)) (t q)) ≡ real_of (cond b (option_map (objects.with_content content n) (u q)) (u q))) [
          | true ↦ real-written content m (t q) ∙ ap (option_map (rewritten content)) (same q) ∙ sym (real-written content n (u q))
          | false ↦ same q
        ]

    move_like : (from to : Path) → real_of (steps.moved m from to t q) ≡ real_of (steps.moved n from to u q)
    move_like from to = by (rest_under to q)
      where
        left : real_of (steps.touched m from (steps.touched m to t) q) ≡ real_of (steps.touched n from (steps.touched n to u) q)
        left =
            real-touched m from (steps.touched m to t) q ∙ real-touched m to t q ∙ same q
            ∙ sym (real-touched n from (steps.touched n to u) q ∙ real-touched n to u q)

        by : (rest : Option Path) → real_of (steps.moved_at m from to t q rest) ≡ real_of (steps.moved_at n from to u q rest)
        by None =
            elim (is_prefix from q) as (λ b. real_of (cond b None (steps.touched m from (steps.touched m to t) q)) ≡ real_of (cond b None (steps.touched n from (steps.touched n to u) q))) [
              | true ↦ refl
              | false ↦ left
            ]
        by (Some []) = real-mapped (objects.changed m) (λ o. refl) (t from) ∙ same from ∙ sym (real-mapped (objects.changed n) (λ o. refl) (u from))
        by (Some (name ∷ rest)) = same (from ++ name ∷ rest)

    after_like : (s : Step) → real_of (after_at t s m q) ≡ real_of (after_at u s n q)
    after_like (step.MakeDir p) = made_like p (objects.fresh kind.Directory 0o700 [] 0 0 m) (objects.fresh kind.Directory 0o700 [] 0 0 n) refl
    after_like (step.MakeFile p) = made_like p (objects.fresh kind.File 0o600 [] 0 0 m) (objects.fresh kind.File 0o600 [] 0 0 n) refl
    after_like (step.MakeFifo p) = made_like p (objects.fresh kind.Fifo 0o600 [] 0 0 m) (objects.fresh kind.Fifo 0o600 [] 0 0 n) refl
    after_like (step.MakeDevice p true major minor) =
        made_like p (objects.fresh kind.BlockDevice 0o600 [] major minor m) (objects.fresh kind.BlockDevice 0o600 [] major minor n) refl
    after_like (step.MakeDevice p false major minor) =
        made_like p (objects.fresh kind.CharDevice 0o600 [] major minor m) (objects.fresh kind.CharDevice 0o600 [] major minor n) refl
    after_like (step.MakeLink p target) = made_like p (objects.fresh kind.Link 0o777 target 0 0 m) (objects.fresh kind.Link 0o777 target 0 0 n) refl
    after_like (step.Write p content) = write_like p content
    after_like (step.SetMode p mode) = set_like p (objects.with_mode mode m) (objects.with_mode mode n) (λ o. refl) (λ o. refl)
    after_like (step.SetOwner p uid gid) = set_like p (objects.with_owner uid gid m) (objects.with_owner uid gid n) (λ o. refl) (λ o. refl)
    after_like (step.SetAcl p acl) = set_like p (objects.with_acl acl m) (objects.with_acl acl n) (λ o. refl) (λ o. refl)
    after_like (step.SetAttrs p attrs) = set_like p (objects.with_attrs attrs m) (objects.with_attrs attrs n) (λ o. refl) (λ o. refl)
    after_like (step.SetLetters p letters) = set_like p (objects.with_letters letters m) (objects.with_letters letters n) (λ o. refl) (λ o. refl)
    after_like (step.SetStamps p access modify) = set_like p (objects.with_stamps access modify m) (objects.with_stamps access modify n) (λ o. refl) (λ o. refl)
    after_like (step.Rename from to) = move_like from to
    after_like (step.Unlink p) = gone_like p
    after_like (step.RemoveDir p) = gone_like p

-- so their moments do not matter
changes_at : (top : Path) (now : ℕ) (done : List (Step × ℕ)) (t u : Files) → ((q : Path) → real_of (places t q) ≡ real_of (places u q))
    → changes_for top t done ≡ changes_of top u (map (λ s. s.0) done) now
changes_at top now [] t u same = refl
changes_at top now ((s, m) ∷ done) t u same =
    ap (λ call. option_to_list call ++ changes_for top (after t s m) done) (call_like (places t) (places u) same top s)
    ∙ ap (λ rest. option_to_list (change_for top (places u) s) ++ rest) (changes_at top now done (after t s m) (after u s now) (λ q.
    ap (λ (p : Places). real_of (p q)) (at_after t s m) ∙ after_like (places t) (places u) same m now q s ∙ ap (λ (p : Places). real_of (p q)) (sym (at_after u s now))))

pub changes_at_once : (top : Path) (now : ℕ) (done : List (Step × ℕ)) (t : Files) (run : List Step) → run ≡ map (λ s. s.0) done → changes_for top t done ≡ changes_of top t run now
changes_at_once top now done t run is = changes_at top now done t t (λ q. refl) ∙ ap (λ (steps : List Step). changes_of top t steps now) (sym is)

-- and one step more asks for one change more
pub changes_one_more : (top : Path) (now : ℕ) (run : List Step) (t : Files) (s : Step)
    → changes_of top t run now ++ option_to_list (change_for top (places (after_all t run now)) s) ≡ changes_of top t (run ++ s ∷ []) now
changes_one_more top now [] t s = sym (append-nil (option_to_list (change_for top (places t) s)))
changes_one_more top now (first ∷ run) t s =
    append_assoc (option_to_list (change_for top (places t) first)) (changes_of top (after t first now) run now) (option_to_list (change_for top (places (after_all (after t first now) run now)) s))
    ∙ ap (λ rest. option_to_list (change_for top (places t) first) ++ rest) (changes_one_more top now run (after t first now) s)

-- ---- steps that can be done

pub can_along : (P : Files → Type 0) (t : Files) (run : List Step) (now : ℕ) → Along P t run now → CanBeDone t run now
can_along P t [] now along = tt
can_along P t (s ∷ run) now (p, (legal, rest)) = (legal.can, (legal.fits, can_along P (after t s now) run now rest))

pub can_one_more : (t : Files) (run : List Step) (now : ℕ) (s : Step) → CanBeDone t run now → Can (places (after_all t run now)) s → StepFits s → CanBeDone t (run ++ s ∷ []) now
can_one_more t [] now s before can fits = (can, (fits, tt))
can_one_more t (first ∷ run) now s (p, (q, rest)) can fits = (p, (q, can_one_more (after t first now) run now s rest can fits))
