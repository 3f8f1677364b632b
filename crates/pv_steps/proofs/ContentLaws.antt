-- Laws of contents: steps leave presence, kind and payload of the paths that they do not alter.
use Rattle.std.specs.Prelude.{◌≡◌, ℕ, Bool, true, false, cond, List, [], ◌∷◌, Option, Some, None, is_some, option_map}
use Rattle.std.specs.List.{AllByRecursion}
use Rattle.std.proofs.Common.{refl, sym, ap, ◌∙◌}
use Rattle.std.proofs.lemmas.Bool.{or_parts}
use Rattle.pv_path.specs.Paths.{Path, same_path, same_path-decides, rest_under, is_prefix, parent_of}
use Rattle.pv_path.proofs.PathLaws.{is_some-rest_under}
use Rattle.pv_steps.specs.declared.node.Kind.TheVariants.{Directory, File, Link, Fifo}
use Rattle.pv_steps.specs.declared.object.Object.{Object}
use Rattle.pv_steps.specs.declared.step.Step.{Step}
use Rattle.pv_steps.specs.declared.step.Step.TheVariants.{MakeDir, MakeFile, MakeFifo, MakeDevice, MakeLink, Write, SetMode, SetOwner, SetAcl, SetAttrs, SetLetters, SetStamps, Rename, Unlink, RemoveDir}
use Rattle.pv_steps.specs.Objects.{fresh, modified, with_mode, with_owner, with_acl, with_attrs, with_letters, with_stamps, with_content}
use Rattle.pv_steps.specs.Trees.{Files, Places, places}
use Rattle.pv_steps.specs.Steps.{after, after_at, put_at, on_at, touched, moved, moved_at, device_kind}
use Rattle.pv_steps.specs.Runs.{after_all}
use Rattle.pv_steps.specs.Content.{content_of, alters, Removes}
use Rattle.pv_steps.proofs.StepLaws.{at_after}

content-on : (f : Object → Object) → ((o : Object) → content_of (Some (f o)) ≡ content_of (Some o)) → (o : Option Object) → content_of (option_map f o) ≡ content_of o
content-on f keeps None = refl
content-on f keeps (Some o) = keeps o

content-on_at : (path : Path) (f : Object → Object) → ((o : Object) → content_of (Some (f o)) ≡ content_of (Some o)) → (t : Places) (q : Path) → content_of (on_at path f t q) ≡ content_of (t q)
content-on_at path f keeps t q =
    elim (same_path path q) as (λ b. content_of (cond b (option_map f (t q)) (t q)) ≡ content_of (t q)) [ true ↦ content-on f keeps (t q) | false ↦ refl ]

pub content-touched : (now : ℕ) (path : Path) (t : Places) (q : Path) → content_of (touched now path t q) ≡ content_of (t q)
content-touched now path t q = content-on_at (parent_of path) (modified now) (λ o. refl) t q

content-put : (now : ℕ) (path : Path) (o : Option Object) (t : Places) (q : Path) → same_path path q ≡ false → content_of (touched now path (put_at path o t) q) ≡ content_of (t q)
content-put now path o t q d = content-touched now path (put_at path o t) q ∙ ap (λ b. content_of (cond b o (t q))) d

content-moved : (now : ℕ) (from to : Path) (t : Places) (q : Path) → is_prefix from q ≡ false → is_prefix to q ≡ false → content_of (moved now from to t q) ≡ content_of (t q)
content-moved now from to t q a b = by (rest_under to q) refl
  where
    by : (r : Option Path) → rest_under to q ≡ r → content_of (moved_at now from to t q r) ≡ content_of (t q)
    by (Some rest) e = absurd (let no : true ≡ false = ap (λ o. is_some o) (sym e) ∙ is_some-rest_under to q ∙ b in cc)
    by None e =
        ap (λ x. content_of (cond x None (touched now from (touched now to t) q))) a
        ∙ content-touched now from (touched now to t) q ∙ content-touched now to t q

-- a step leaves the content of a path that it does not alter
pub content-after_at : (t : Places) (step : Step) (now : ℕ) (q : Path) → alters step q ≡ false → content_of (after_at t step now q) ≡ content_of (t q)
content-after_at t (MakeDir path) now q d = content-put now path (Some (fresh Directory 0o700 [] 0 0 now)) t q d
content-after_at t (MakeFile path) now q d = content-put now path (Some (fresh File 0o600 [] 0 0 now)) t q d
content-after_at t (MakeFifo path) now q d = content-put now path (Some (fresh Fifo 0o600 [] 0 0 now)) t q d
content-after_at t (MakeDevice path block major minor) now q d = content-put now path (Some (fresh (device_kind block) 0o600 [] major minor now)) t q d
content-after_at t (MakeLink path target) now q d = content-put now path (Some (fresh Link 0o777 target 0 0 now)) t q d
content-after_at t (Write path content) now q d = ap (λ b. content_of (cond b (option_map (with_content content now) (t q)) (t q))) d
content-after_at t (SetMode path mode) now q d = content-on_at path (with_mode mode now) (λ o. refl) t q
content-after_at t (SetOwner path uid gid) now q d = content-on_at path (with_owner uid gid now) (λ o. refl) t q
content-after_at t (SetAcl path acl) now q d = content-on_at path (with_acl acl now) (λ o. refl) t q
content-after_at t (SetAttrs path attrs) now q d = content-on_at path (with_attrs attrs now) (λ o. refl) t q
content-after_at t (SetLetters path letters) now q d = content-on_at path (with_letters letters now) (λ o. refl) t q
content-after_at t (SetStamps path access modify) now q d = content-on_at path (with_stamps access modify now) (λ o. refl) t q
content-after_at t (Rename from to) now q d = let two = or_parts (is_prefix from q) (is_prefix to q) d in content-moved now from to t q two.0 two.1
content-after_at t (Unlink path) now q d = content-put now path None t q d
content-after_at t (RemoveDir path) now q d = content-put now path None t q d

-- and so do steps
pub content-after_all : (t : Files) (steps : List Step) (now : ℕ) (q : Path) → AllByRecursion (λ step. alters step q ≡ false) steps
    → content_of (places (after_all t steps now) q) ≡ content_of (places t q)
content-after_all t [] now q are = refl
content-after_all t (step ∷ steps) now q are =
    content-after_all (after t step now) steps now q are.1
    ∙ ap (λ (p : Places). content_of (p q)) (at_after t step now)
    ∙ content-after_at (places t) step now q are.0

-- a step that takes something away inside of some paths alters none outside
pub removal_inside : (inside : Path → Bool) (step : Step) (q : Path) → Removes inside step → inside q ≡ false → alters step q ≡ false
removal_inside inside step q h out = by step h
  where
    apart : (path : Path) → inside path ≡ true → (b : Bool) → same_path path q ≡ b → b ≡ false
    apart path is true e = absurd (let no : true ≡ false = sym is ∙ ap inside ((same_path-decides path q).0 e) ∙ out in cc)
    apart path is false e = refl

    by : (s : Step) → Removes inside s → alters s q ≡ false
    by (Unlink path) is = apart path is (same_path path q) refl
    by (RemoveDir path) is = apart path is (same_path path q) refl
    by (MakeDir path) is = absurd is
    by (MakeFile path) is = absurd is
    by (MakeFifo path) is = absurd is
    by (MakeDevice path block major minor) is = absurd is
    by (MakeLink path target) is = absurd is
    by (Write path content) is = absurd is
    by (SetMode path mode) is = absurd is
    by (SetOwner path uid gid) is = absurd is
    by (SetAcl path acl) is = absurd is
    by (SetAttrs path attrs) is = absurd is
    by (SetLetters path letters) is = absurd is
    by (SetStamps path access modify) is = absurd is
    by (Rename from to) is = absurd is

-- what is taken away inside of some paths is taken away inside of more
pub removes-wider : (narrow wide : Path → Bool) → ((q : Path) → narrow q ≡ true → wide q ≡ true) → (step : Step) → Removes narrow step → Removes wide step
removes-wider narrow wide within (Unlink path) h = within path h
removes-wider narrow wide within (RemoveDir path) h = within path h
removes-wider narrow wide within (MakeDir path) h = h
removes-wider narrow wide within (MakeFile path) h = h
removes-wider narrow wide within (MakeFifo path) h = h
removes-wider narrow wide within (MakeDevice path block major minor) h = h
removes-wider narrow wide within (MakeLink path target) h = h
removes-wider narrow wide within (Write path content) h = h
removes-wider narrow wide within (SetMode path mode) h = h
removes-wider narrow wide within (SetOwner path uid gid) h = h
removes-wider narrow wide within (SetAcl path acl) h = h
removes-wider narrow wide within (SetAttrs path attrs) h = h
removes-wider narrow wide within (SetLetters path letters) h = h
removes-wider narrow wide within (SetStamps path access modify) h = h
removes-wider narrow wide within (Rename from to) h = h
