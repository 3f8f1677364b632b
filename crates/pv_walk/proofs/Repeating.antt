-- Lists of operations that nothing is said against, done again.
use Rattle.std.specs.Prelude.{◌≡◌, ℕ, Bool, true, false, ◌==◌, ◌&&◌, ◌||◌, not, List, [], ◌∷◌, ◌++◌, take, drop, Option, Some, None, ◌⊎◌, if◌then◌else◌}
use Rattle.std.proofs.Common.{refl, sym, ap, subst, ◌∙◌, inl, inr, eq-eqb}
use Rattle.std.specs.List.{list_any, list_all}
use Rattle.std.specs.Str.{bytes_eq}
use Rattle.std.specs.Cmp.Lexicographic.{bytes_decides}
use Rattle.std.proofs.lemmas.List.{take-append-drop}
use Rattle.std.proofs.lemmas.List.Sums.{fold-append}
use Rattle.std.proofs.lemmas.List.Folds.{list_any-append}
use Rattle.std.proofs.Math.Bool.{or-true}
use Rattle.std.proofs.lemmas.Bool.{and_parts, or_parts}
use Rattle.pv_acl.specs.declared.line.Entry.{Entry}
use Rattle.pv_acl.specs.declared.part.Acl.{Acl}
use Rattle.pv_acl.specs.Applying.{acl_after}
use Rattle.pv_acl.specs.declared.line.How.{How}
use Rattle.pv_steps.specs.declared.node.Kind.{Kind}
use Rattle.pv_steps.specs.declared.node.Kind.TheVariants.{Directory, File, Link, Fifo, CharDevice, BlockDevice}
use Rattle.pv_walk.specs.declared.object_state.Body.{Body}
use Rattle.pv_walk.specs.declared.object_state.ObjectState.{ObjectState}
use Rattle.pv_walk.specs.declared.operation.Change.{Change}
use Rattle.pv_walk.specs.declared.operation.Change.TheVariants.{Write, Append, Owner, Mode, Entries, Attrs, Letters}
use Rattle.pv_walk.specs.declared.operation.Test.{Test}
use Rattle.pv_walk.specs.declared.operation.Operation.{Operation}
use Rattle.pv_walk.specs.declared.operation.Operation.TheVariants.{Make, Renew, Erase, Apply}
use Rattle.pv_steps.specs.Objects.{is_directory}
use Rattle.pv_walk.specs.Nodes.{is_link, same_kind}
use Rattle.pv_walk.specs.Operations.{admits, stays, changed, done, run}
use Rattle.pv_walk.specs.Reasons.{is_adjusting, is_append, is_masked, gives_base, is_make, is_renewal, is_erasure, sets_nothing, no_entries, has_append, has_mixed_mask, makes_late, has_late_make, IsRepeatable}
use Rattle.pv_walk.proofs.NodeChanges.{Keeps}
use Rattle.pv_walk.proofs.Absorbing.{adjusted, all_adjusted, keeps-adjusted, adjusted_twice}

-- ---- a list in two parts

pub run-append : (xs ys : List Operation) (b : Option ObjectState) → run (xs ++ ys) b ≡ run ys (run xs b)
run-append xs ys b = fold-append (λ (b : Option ObjectState) (x : Operation). done x b) b xs ys

-- the first operations, and the others
run-split : (k : ℕ) (xs : List Operation) (b : Option ObjectState) → run xs b ≡ run (drop k xs) (run (take k xs) b)
run-split k xs b = ap (λ (l : List Operation). run l b) (sym (take-append-drop k xs)) ∙ run-append (take k xs) (drop k xs) b

any-front : {X : Type 0} (p : X → Bool) (xs ys : List X) → list_any p (xs ++ ys) ≡ false → list_any p xs ≡ false
any-front p xs ys h = (or_parts (list_any p xs) (list_any p ys) (sym (list_any-append p xs ys) ∙ h)).0

-- ---- what stays in the place of a new object

pub same_kind-refl : (k : Kind) → same_kind k k ≡ true
same_kind-refl Directory = refl
same_kind-refl File = refl
same_kind-refl Link = refl
same_kind-refl Fifo = refl
same_kind-refl CharDevice = refl
same_kind-refl BlockDevice = refl

-- a new object stays in its own place
stays-self : (test : Test) (new : Body) → stays test new new ≡ true
stays-self test new =
    let bytes : bytes_eq new.payload new.payload ≡ true = (bytes_decides new.payload new.payload).1 refl in
    let major : (new.major == new.major) ≡ true = eq-eqb new.major new.major refl in
    let minor : (new.minor == new.minor) ≡ true = eq-eqb new.minor new.minor refl in
    rw (same_kind-refl new.kind, bytes, major, minor, or-true (not (is_link new.kind)), or-true (not test.exact))

-- what keeps its kind, its numbers and a link's target stays as before
stays-kept : (test : Test) (wanted a b : Body) → a.kind ≡ b.kind → a.major ≡ b.major → a.minor ≡ b.minor → (is_link b.kind ≡ true → a.payload ≡ b.payload) → stays test wanted a ≡ stays test wanted b
stays-kept test wanted a b kind major minor target =
    ap (λ k. judged k a.payload a.major a.minor) kind ∙ ap (λ n. judged b.kind a.payload n a.minor) major ∙ ap (λ n. judged b.kind a.payload b.major n) minor
    ∙ ap (λ t. (same_kind wanted.kind b.kind && (not test.exact || (t && wanted.major == b.major && wanted.minor == b.minor))) || (test.spares_directories && is_directory b.kind)) (by (is_link b.kind) target)
  where
    judged : Kind → List ℕ → ℕ → ℕ → Bool
    judged k p m n = (same_kind wanted.kind k && (not test.exact || ((not (is_link k) || bytes_eq wanted.payload p) && wanted.major == m && wanted.minor == n))) || (test.spares_directories && is_directory k)

    by : (l : Bool) → (l ≡ true → a.payload ≡ b.payload) → (not l || bytes_eq wanted.payload a.payload) ≡ (not l || bytes_eq wanted.payload b.payload)
    by true same = ap (λ p. bytes_eq wanted.payload p) (same refl)
    by false same = refl

-- ---- lists without makes and erasures

-- nothing stays nothing
pub run-none : (xs : List Operation) → list_any is_make xs ≡ false → run xs None ≡ None
run-none [] h = refl
run-none (Make new ∷ xs) h = cc
run-none (Renew test new ∷ xs) h = cc
run-none (Erase ∷ xs) h = run-none xs h
run-none (Apply guard change ∷ xs) h = run-none xs h

-- an object is changed, change by change
run-adjusted : (kind : Kind) (xs : List Operation) → list_any is_erasure xs ≡ false → list_any is_renewal xs ≡ false → (b : ObjectState) → b.body.kind ≡ kind → run xs (Some b) ≡ Some (all_adjusted kind xs b)
run-adjusted kind [] e r b same = refl
run-adjusted kind (Make new ∷ xs) e r b same = run-adjusted kind xs e r b same
run-adjusted kind (Renew test new ∷ xs) e r b same = cc
run-adjusted kind (Erase ∷ xs) e r b same = cc
run-adjusted kind (Apply guard change ∷ xs) e r b same =
    ap (λ k. run xs (Some (if admits guard k then changed k change b else b))) same
    ∙ run-adjusted kind xs e r (adjusted kind (Apply guard change) b) ((keeps-adjusted kind (Apply guard change ∷ [])).same b ∙ same)

-- what is done to an object by changes alone, done twice
module _ (xs : List Operation) (erase : list_any is_erasure xs ≡ false) (renew : list_any is_renewal xs ≡ false) (append : has_append xs ≡ false)
    (mask : (list_any (is_adjusting is_masked) xs ≡ false) ⊎ (list_any (is_adjusting gives_base) xs ≡ false)) where
  changes_twice : (b : ObjectState) → run xs (Some (all_adjusted b.body.kind xs b)) ≡ Some (all_adjusted b.body.kind xs b)
  changes_twice b =
      run-adjusted b.body.kind xs erase renew (all_adjusted b.body.kind xs b) ((keeps-adjusted b.body.kind xs).same b)
      ∙ ap (λ (n : ObjectState). Some n) (adjusted_twice b.body.kind xs append mask b)

  changes-once : (b : ObjectState) → run xs (Some b) ≡ Some (all_adjusted b.body.kind xs b)
  changes-once b = run-adjusted b.body.kind xs erase renew b refl

  -- behind a make
  make_twice : (new : ObjectState) (b : Option ObjectState) → run (Make new ∷ xs) (run (Make new ∷ xs) b) ≡ run (Make new ∷ xs) b
  make_twice new None = ap (λ (o : Option ObjectState). run (Make new ∷ xs) o) (changes-once new) ∙ changes_twice new ∙ sym (changes-once new)
  make_twice new (Some b) = ap (λ (o : Option ObjectState). run (Make new ∷ xs) o) (changes-once b) ∙ changes_twice b ∙ sym (changes-once b)

  -- behind a make that renews
  renewed : (test : Test) (new b : ObjectState) → stays test new.body b.body ≡ true → run (Renew test new ∷ xs) (run xs (Some b)) ≡ run xs (Some b)
  renewed test new b h =
      ap (λ (o : Option ObjectState). run (Renew test new ∷ xs) o) (changes-once b)
      ∙ ap (λ t. run xs (Some (if t then all_adjusted b.body.kind xs b else new))) still
      ∙ changes_twice b ∙ sym (changes-once b)
    where
      keeps : Keeps b.body.kind (all_adjusted b.body.kind xs)
      keeps = keeps-adjusted b.body.kind xs

      still : stays test new.body (all_adjusted b.body.kind xs b).body ≡ true
      still = stays-kept test new.body (all_adjusted b.body.kind xs b).body b.body (keeps.same b) (keeps.major b) (keeps.minor b) (λ l. keeps.target l b) ∙ h

  renew_twice : (test : Test) (new : ObjectState) (b : Option ObjectState) → run (Renew test new ∷ xs) (run (Renew test new ∷ xs) b) ≡ run (Renew test new ∷ xs) b
  renew_twice test new None = renewed test new new (stays-self test new.body)
  renew_twice test new (Some b) = by (stays test new.body b.body) refl
    where
      by : (t : Bool) → stays test new.body b.body ≡ t → run (Renew test new ∷ xs) (run xs (Some (if t then b else new))) ≡ run xs (Some (if t then b else new))
      by true e = renewed test new b e
      by false e = renewed test new new (stays-self test new.body)

  -- without a make
  plain_twice : list_any is_make xs ≡ false → (b : Option ObjectState) → run xs (run xs b) ≡ run xs b
  plain_twice make None = ap (λ (o : Option ObjectState). run xs o) (run-none xs make)
  plain_twice make (Some b) = ap (λ (o : Option ObjectState). run xs o) (changes-once b) ∙ changes_twice b ∙ sym (changes-once b)

-- ---- changes that change nothing

acl_after-none : (acl : Acl) (es ds : List Entry) (how : How) (directory : Bool) → (no_entries es && no_entries ds) ≡ true → acl_after acl (record { access = es; default_part = ds }) how directory ≡ acl
acl_after-none acl [] [] how true h = refl
acl_after-none acl [] [] how false h = refl
acl_after-none acl [] (d ∷ ds) how directory h = cc
acl_after-none acl (e ∷ es) ds how directory h = cc

idle-changed : (kind : Kind) (c : Change) → sets_nothing c ≡ true → (b : ObjectState) → changed kind c b ≡ b
idle-changed kind (Write bytes) h b = cc
idle-changed kind (Append bytes) h b = cc
idle-changed kind (Mode mode masked) h b = cc
idle-changed kind (Attrs attrs) h b = cc
idle-changed kind (Letters how letters) h b = cc
idle-changed kind (Owner None None) h b = refl
idle-changed kind (Owner None (Some gid)) h b = cc
idle-changed kind (Owner (Some uid) gid) h b = cc
idle-changed kind (Entries line how) h b = λ i. record b { metadata = record b.metadata { acl = acl_after-none b.metadata.acl line.access line.default_part how (is_directory kind) h i } }

idle-done : (x : Operation) → is_adjusting sets_nothing x ≡ true → (b : Option ObjectState) → done x b ≡ b
idle-done (Make new) h b = cc
idle-done (Renew test new) h b = cc
idle-done Erase h b = cc
idle-done (Apply guard change) h None = refl
idle-done (Apply guard change) h (Some b) = by (admits guard b.body.kind)
  where
    by : (t : Bool) → Some (if t then changed b.body.kind change b else b) ≡ Some b
    by true = ap (λ (n : ObjectState). Some n) (idle-changed b.body.kind change h b)
    by false = refl

-- ---- lists with an erasure

-- they leave one and the same, whatever was there before
pub erased-alike : (xs : List Operation) → list_any is_erasure xs ≡ true → (a b : Option ObjectState) → run xs a ≡ run xs b
erased-alike [] h a b = cc
erased-alike (Erase ∷ xs) h a b = refl
erased-alike (Make new ∷ xs) h a b = erased-alike xs h (done (Make new) a) (done (Make new) b)
erased-alike (Renew test new ∷ xs) h a b = erased-alike xs h (done (Renew test new) a) (done (Renew test new) b)
erased-alike (Apply guard change ∷ xs) h a b = erased-alike xs h (done (Apply guard change) a) (done (Apply guard change) b)

-- ---- lists that nothing is said against

no_renewal : (xs : List Operation) → list_any is_make xs ≡ false → list_any is_renewal xs ≡ false
no_renewal [] h = refl
no_renewal (Make new ∷ xs) h = cc
no_renewal (Renew test new ∷ xs) h = cc
no_renewal (Erase ∷ xs) h = no_renewal xs h
no_renewal (Apply guard change ∷ xs) h = no_renewal xs h

-- no mode is masked, or no base entry is given
abbrev Unmixed : List Operation → Type 0
Unmixed xs = (list_any (is_adjusting is_masked) xs ≡ false) ⊎ (list_any (is_adjusting gives_base) xs ≡ false)

unmixed-rest : (x : Operation) (xs : List Operation) → Unmixed (x ∷ xs) → Unmixed xs
unmixed-rest x xs (inl h) = inl (or_parts (is_adjusting is_masked x) (list_any (is_adjusting is_masked) xs) h).1
unmixed-rest x xs (inr h) = inr (or_parts (is_adjusting gives_base x) (list_any (is_adjusting gives_base) xs) h).1

twice : (xs : List Operation) → list_any is_erasure xs ≡ false → has_append xs ≡ false → Unmixed xs → makes_late xs ≡ false → (b : Option ObjectState) → run xs (run xs b) ≡ run xs b
twice [] erase append mask late b = refl
twice (x ∷ xs) erase append mask late b =
    by (is_adjusting sets_nothing x) (is_make x) refl refl late
    (λ e. twice xs (or_parts (is_erasure x) (list_any is_erasure xs) erase).1 (or_parts (is_adjusting is_append x) (has_append xs) append).1 (unmixed-rest x xs mask) e b)
  where
    erased : (is_erasure x ≡ false) × (list_any is_erasure xs ≡ false)
    erased = or_parts (is_erasure x) (list_any is_erasure xs) erase

    appended : (is_adjusting is_append x ≡ false) × (has_append xs ≡ false)
    appended = or_parts (is_adjusting is_append x) (has_append xs) append

    by_make : (y : Operation) → is_make y ≡ true → list_any is_renewal xs ≡ false → run (y ∷ xs) (run (y ∷ xs) b) ≡ run (y ∷ xs) b
    by_make (Make new) m r = make_twice xs erased.1 r appended.1 (unmixed-rest x xs mask) new b
    by_make (Renew test new) m r = renew_twice xs erased.1 r appended.1 (unmixed-rest x xs mask) test new b
    by_make Erase m r = cc
    by_make (Apply guard change) m r = cc

    by : (idle make : Bool) → is_adjusting sets_nothing x ≡ idle → is_make x ≡ make → (if idle then makes_late xs else if make then list_any is_renewal xs else list_any is_make xs) ≡ false
        → (makes_late xs ≡ false → run xs (run xs b) ≡ run xs b) → run (x ∷ xs) (run (x ∷ xs) b) ≡ run (x ∷ xs) b
    by true make i m e rest =
        ap (λ (o : Option ObjectState). run xs o) (idle-done x i (run xs (done x b))) ∙ ap (λ (o : Option ObjectState). run xs (run xs o)) (idle-done x i b)
        ∙ rest e ∙ sym (ap (λ (o : Option ObjectState). run xs o) (idle-done x i b))
    by false true i m e rest = by_make x m e
    by false false i m e rest =
        let none : list_any is_make (x ∷ xs) ≡ false = ap (λ t. t || list_any is_make xs) m ∙ e in
        plain_twice (x ∷ xs) erase (no_renewal (x ∷ xs) none) append mask none b

-- ---- the first operations of a list

-- nothing is said against them where nothing is said against all
makes_late-front : (xs ys : List Operation) → makes_late (xs ++ ys) ≡ false → makes_late xs ≡ false
makes_late-front [] ys h = refl
makes_late-front (x ∷ xs) ys h = by (is_adjusting sets_nothing x) (is_make x) h (makes_late-front xs ys)
  where
    by : (idle make : Bool) → (if idle then makes_late (xs ++ ys) else if make then list_any is_renewal (xs ++ ys) else list_any is_make (xs ++ ys)) ≡ false
        → (makes_late (xs ++ ys) ≡ false → makes_late xs ≡ false) → (if idle then makes_late xs else if make then list_any is_renewal xs else list_any is_make xs) ≡ false
    by true make e rest = rest e
    by false true e rest = any-front is_renewal xs ys e
    by false false e rest = any-front is_make xs ys e

-- either there is no masked mode, or there is no base entry
unmixed : (xs : List Operation) → has_mixed_mask xs ≡ false → Unmixed xs
unmixed xs h = by (list_any (is_adjusting is_masked) xs) (list_any (is_adjusting gives_base) xs) refl refl h
  where
    by : (a b : Bool) → list_any (is_adjusting is_masked) xs ≡ a → list_any (is_adjusting gives_base) xs ≡ b → (a && b) ≡ false → Unmixed xs
    by false b p q e = inl p
    by true false p q e = inr q
    by true true p q e = cc

unmixed-front : (xs ys : List Operation) → Unmixed (xs ++ ys) → Unmixed xs
unmixed-front xs ys (inl h) = inl (any-front (is_adjusting is_masked) xs ys h)
unmixed-front xs ys (inr h) = inr (any-front (is_adjusting gives_base) xs ys h)

-- without an erasure no make comes late
unlate : (xs : List Operation) → list_any is_erasure xs ≡ false → has_late_make xs ≡ false → makes_late xs ≡ false
unlate xs e h = sym (ap (λ t. not t && makes_late xs) e) ∙ h

timely : (xs : List Operation) → makes_late xs ≡ false → has_late_make xs ≡ false
timely xs h = by (not (list_any is_erasure xs)) h
  where
    by : (t : Bool) → makes_late xs ≡ false → (t && makes_late xs) ≡ false
    by true e = e
    by false e = refl

pub repeatable-front : (xs ys : List Operation) → list_any is_erasure (xs ++ ys) ≡ false → IsRepeatable (xs ++ ys) → IsRepeatable xs
repeatable-front xs ys none h = record {
  append = any-front (is_adjusting is_append) xs ys h.append;
  mask = mixed (unmixed-front xs ys (unmixed (xs ++ ys) h.mask));
  make = timely xs (makes_late-front xs ys (unlate (xs ++ ys) none h.make));
}
  where
    mixed : Unmixed xs → has_mixed_mask xs ≡ false
    mixed (inl e) = ap (λ t. t && list_any (is_adjusting gives_base) xs) e
    mixed (inr e) = by (list_any (is_adjusting is_masked) xs) e
      where
        by : (t : Bool) → list_any (is_adjusting gives_base) xs ≡ false → (t && list_any (is_adjusting gives_base) xs) ≡ false
        by true e = e
        by false e = refl

-- operations that nothing is said against, done twice, are done once
pub run-twice : (xs : List Operation) → IsRepeatable xs → (b : Option ObjectState) → run xs (run xs b) ≡ run xs b
run-twice xs h b = by (list_any is_erasure xs) refl
  where
    by : (t : Bool) → list_any is_erasure xs ≡ t → run xs (run xs b) ≡ run xs b
    by true e = erased-alike xs e (run xs b) b
    by false e = twice xs e h.append (unmixed xs h.mask) (unlate xs e h.make) b

-- the first operations of a list are absorbed by the whole list
pub absorbed : (xs : List Operation) (k : ℕ) (b : Option ObjectState) → IsRepeatable xs → run xs (run (take k xs) b) ≡ run xs b
absorbed xs k b h = by (list_any is_erasure xs) refl
  where
    whole : take k xs ++ drop k xs ≡ xs
    whole = take-append-drop k xs

    by : (t : Bool) → list_any is_erasure xs ≡ t → run xs (run (take k xs) b) ≡ run xs b
    by true e = erased-alike xs e (run (take k xs) b) b
    by false e =
        run-split k xs (run (take k xs) b)
        ∙ ap (λ (o : Option ObjectState). run (drop k xs) o)
        (run-twice (take k xs) (repeatable-front (take k xs) (drop k xs) (ap (list_any is_erasure) whole ∙ e) (subst IsRepeatable (sym whole) h)) b)
        ∙ sym (run-split k xs b)

-- ---- what was there before

idle-run : (xs : List Operation) → list_all (is_adjusting sets_nothing) xs ≡ true → (b : Option ObjectState) → run xs b ≡ b
idle-run [] h b = refl
idle-run (x ∷ xs) h b = let e = and_parts (is_adjusting sets_nothing x) (list_all (is_adjusting sets_nothing) xs) h in ap (λ (o : Option ObjectState). run xs o) (idle-done x e.0 b) ∙ idle-run xs e.1 b

-- where an object fails the test of the first make, the list ends as from nothing
pub from_the_gap : (idle xs : List Operation) (test : Test) (new b : ObjectState) → list_all (is_adjusting sets_nothing) idle ≡ true → stays test new.body b.body ≡ false
    → run (idle ++ Renew test new ∷ xs) (Some b) ≡ run (idle ++ Renew test new ∷ xs) None
from_the_gap idle xs test new b h fails =
    run-append idle (Renew test new ∷ xs) (Some b) ∙ ap (λ (o : Option ObjectState). run (Renew test new ∷ xs) o) (idle-run idle h (Some b))
    ∙ ap (λ t. run xs (Some (if t then b else new))) fails
    ∙ sym (run-append idle (Renew test new ∷ xs) None ∙ ap (λ (o : Option ObjectState). run (Renew test new ∷ xs) o) (idle-run idle h None))

-- what follows an erasure begins with nothing
pub after_erasure : (xs ys : List Operation) (b : Option ObjectState) → run (xs ++ Erase ∷ ys) b ≡ run ys None
after_erasure xs ys b = run-append xs (Erase ∷ ys) b

-- and where it makes nothing it ends with nothing
pub erased : (xs ys : List Operation) (b : Option ObjectState) → list_any is_make ys ≡ false → run (xs ++ Erase ∷ ys) b ≡ None
erased xs ys b h = after_erasure xs ys b ∙ run-none ys h
