-- One line more is read, or it has the first fault.
use Rattle.std.proofs.Common.{◌≡◌, ◌≢◌, ℕ, suc, ◌+◌, ◌≤◌, Bool, true, false, not, ◌&&◌, List, [], ◌∷◌, ◌++◌, length, map, Some, None, Result, Ok, Err, if◌then◌else◌, refl, sym, ap, ◌∙◌, subst, arith, add-one, append_assoc, append-nil, length-append}
use Rattle.std.specs.List.{AllByRecursion, flat_map, list_all}
use Rattle.std.proofs.Common.{inl, inr, ◌⊎◌, ◌==◌}
use Rattle.std.proofs.lemmas.List.{nil_from_length}
use Rattle.std.specs.Ordering.{eq_by_cmp, is_lt, nat_cmp}
use Rattle.std.specs.declared.cmp.Ordering.{Ordering}
use Rattle.std.specs.FinMap as fin
use Rattle.std.proofs.lemmas.List.Concat.{flat_map-append}
use Rattle.std.proofs.lemmas.Bool.{and_parts, and_from}
use Rattle.pv_path.specs.Paths.{Path, path_cmp, parent_of, same_path, same_path-decides}
use Rattle.pv_steps.specs.declared.object.Object.{Object}
use Rattle.pv_steps.specs.Objects.{is_directory}
use Rattle.pv_steps.specs.declared.node.Kind.TheVariants.{Directory}
use Rattle.pv_steps.specs.Trees.{Files, IsKind, IsTree}
use Rattle.pv_text.specs.Facts.{Values}
use Rattle.pv_image.specs.Spelling.{IsEntry, Shows, end_text, extras_of, fact_text, header_text, line, node_text}
use Rattle.pv_text.specs.Lines.{is_line}
use Rattle.pv_image.specs.Images.{HasFault, cut_off, misspelt, misplaced, later, IsByteFact, IsCut, IsImage, Spells, Stage, Before, InFacts, InNodes, After, What, Note, Header, Fact, Node, End, bad, follows, is_byte_fact, is_note, is_root, has_parent, judged, after_root, after_node, same_version}
use Rattle.pv_image.specs.Progress.{Fails, FactsRead, HasNoFactNext, IsLast, IsLastPath, Leads, NotesRead, Refuses, TreeRead}
use Rattle.pv_image.specs.declared.image_fault.ImageFault.{ImageFault}
use Rattle.pv_image.specs.declared.image_fault.ImageFault.TheVariants as fault
use Rattle.pv_image.specs.declared.version.Version.{Version}
use Rattle.pv_image.specs.declared.version.Version.TheVariants.{One, Two}
use Rattle.pv_text.proofs.Characters.{all_append}
use Rattle.pv_image.proofs.Order.{has_parent-from_kind}
use Rattle.pv_path.proofs.Tests.{map-push}

-- a version is the same as itself
pub same_version-self : (version : Version) → same_version version version ≡ true
same_version-self One = refl
same_version-self Two = refl

pub same_version-is : (a b : Version) → same_version a b ≡ true → a ≡ b
same_version-is One One e = refl
same_version-is One Two e = cc
same_version-is Two One e = cc
same_version-is Two Two e = refl

-- ---- faults of what is left

pub leads_none : (n : ℕ) (stage : Stage) (bytes : List ℕ) → Leads n stage bytes n stage bytes
leads_none n stage bytes f h = h

pub leads_on : (n : ℕ) (stage : Stage) (bytes : List ℕ) (m : ℕ) (now next : Stage) (text rest after : List ℕ) (what : What) → Leads n stage bytes m now rest → IsCut rest text after → Spells text what → judged m now what ≡ Some (Ok next)
    → Leads n stage bytes (m + 1) next after
leads_on n stage bytes m now next text rest after what lead cut spells is f h = lead f (later what cut spells is (rw add-one at h))

pub fails_later : (n : ℕ) (stage : Stage) (bytes : List ℕ) (m : ℕ) (now : Stage) (rest : List ℕ) (f : ImageFault) → Leads n stage bytes m now rest → Fails m now rest f → Fails n stage bytes f
fails_later n stage bytes m now rest fault.TooLong lead h = lead fault.TooLong h
fails_later n stage bytes m now rest (fault.BadHeader k) lead h = lead (fault.BadHeader k) h
fails_later n stage bytes m now rest (fault.BadLine k) lead h = lead (fault.BadLine k) h
fails_later n stage bytes m now rest (fault.OutOfOrder k) lead h = lead (fault.OutOfOrder k) h
fails_later n stage bytes m now rest (fault.NoParent k) lead h = lead (fault.NoParent k) h
fails_later n stage bytes m now rest (fault.Truncated k) lead h = lead (fault.Truncated k) h
fails_later n stage bytes m now rest fault.Memory lead h = tt

pub has_fails : (n : ℕ) (stage : Stage) (bytes : List ℕ) (f : ImageFault) → Fails n stage bytes f → f ≢ fault.Memory → HasFault n stage bytes f
has_fails n stage bytes fault.TooLong h other = h
has_fails n stage bytes (fault.BadHeader k) h other = h
has_fails n stage bytes (fault.BadLine k) h other = h
has_fails n stage bytes (fault.OutOfOrder k) h other = h
has_fails n stage bytes (fault.NoParent k) h other = h
has_fails n stage bytes (fault.Truncated k) h other = h
has_fails n stage bytes fault.Memory h other = absurd (other refl)

pub refuses_fails : (n : ℕ) (stage : Stage) (bytes text rest : List ℕ) (what : What) (f : ImageFault) → IsCut bytes text rest → Spells text what → Refuses n stage what f → Fails n stage bytes f
refuses_fails n stage bytes text rest what fault.TooLong cut spells is = misplaced what cut spells is
refuses_fails n stage bytes text rest what (fault.BadHeader k) cut spells is = misplaced what cut spells is
refuses_fails n stage bytes text rest what (fault.BadLine k) cut spells is = misplaced what cut spells is
refuses_fails n stage bytes text rest what (fault.OutOfOrder k) cut spells is = misplaced what cut spells is
refuses_fails n stage bytes text rest what (fault.NoParent k) cut spells is = misplaced what cut spells is
refuses_fails n stage bytes text rest what (fault.Truncated k) cut spells is = misplaced what cut spells is
refuses_fails n stage bytes text rest what fault.Memory cut spells is = tt

-- ---- lengths

pub cut_length : (bytes text rest : List ℕ) → IsCut bytes text rest → length rest + 1 ≤ length bytes
cut_length bytes text rest cut =
    let whole : length bytes ≡ length (line text ++ rest) = ap length cut.bytes_are in
    omega (arith, whole, length-append (line text) rest, length-append text (10 ∷ []))

-- ---- before the header

module _ (n : ℕ) (bytes text rest : List ℕ) (cut : IsCut bytes text rest) where
  pub bad_header : ((version : Version) → text ≢ header_text version) → is_note text ≡ false → HasFault n Before bytes (fault.BadHeader n)
  bad_header other none = misspelt {stage = Before} cut by_what
    where
      by_what : (what : What) → Spells text what → judged n Before what ≡ None
      by_what Note spells = absurd (let bad : true ≡ false = sym spells ∙ none in cc)
      by_what (Header version) spells = absurd (other version spells)
      by_what (Fact fact) spells = refl
      by_what (Node version e) spells = refl
      by_what End spells = refl

  module _ (version : Version) where
    -- ---- after facts

    pub bad_first : (facts : List (ℕ × List ℕ)) → ((fact : ℕ × List ℕ) → IsByteFact fact → text ≢ fact_text fact) → ((e : Path × Object) → IsEntry version e → text ≢ node_text version e) → text ≢ end_text → HasFault n (InFacts version facts) bytes (fault.BadLine n)
    bad_first facts no_fact no_node no_end = misspelt {stage = InFacts version facts} cut by_what
      where
        by_version : (other : Version) (e : Path × Object) → IsEntry other e × (text ≡ node_text other e) → (t : Bool) → same_version version other ≡ t → judged n (InFacts version facts) (Node other e) ≡ None
        by_version other e spells true q = let same = same_version-is version other q in absurd (no_node e (subst (λ (v : Version). IsEntry v e) (sym same) spells.0) (subst (λ (v : Version). text ≡ node_text v e) (sym same) spells.1))
        by_version other e spells false q = rw q refl

        by_what : (what : What) → Spells text what → judged n (InFacts version facts) what ≡ None
        by_what Note spells = refl
        by_what (Header other) spells = refl
        by_what (Fact fact) spells = absurd (no_fact fact spells.0 spells.1)
        by_what (Node other e) spells = by_version other e spells (same_version version other) refl
        by_what End spells = absurd (no_end spells)

    pub no_nodes : (facts : List (ℕ × List ℕ)) → text ≡ end_text → HasFault n (InFacts version facts) bytes (fault.NoParent n)
    no_nodes facts is = misplaced {stage = InFacts version facts} End cut is refl

    pub no_root : (facts : List (ℕ × List ℕ)) (e : Path × Object) → IsEntry version e → text ≡ node_text version e → is_root e ≡ false → HasFault n (InFacts version facts) bytes (fault.NoParent n)
    no_root facts e is spelt other = misplaced {stage = InFacts version facts} (Node version e) cut (is, spelt) (rw (same_version-self version, other) refl)

    -- ---- after nodes

    pub bad_node : (entries : List (Path × Object)) → ((e : Path × Object) → IsEntry version e → text ≢ node_text version e) → text ≢ end_text → HasFault n (InNodes version entries) bytes (fault.BadLine n)
    bad_node entries no_node no_end = misspelt {stage = InNodes version entries} cut by_what
      where
        by_version : (other : Version) (e : Path × Object) → IsEntry other e × (text ≡ node_text other e) → (t : Bool) → same_version version other ≡ t → judged n (InNodes version entries) (Node other e) ≡ None
        by_version other e spells true q = let same = same_version-is version other q in absurd (no_node e (subst (λ (v : Version). IsEntry v e) (sym same) spells.0) (subst (λ (v : Version). text ≡ node_text v e) (sym same) spells.1))
        by_version other e spells false q = rw q refl

        by_what : (what : What) → Spells text what → judged n (InNodes version entries) what ≡ None
        by_what Note spells = refl
        by_what (Header other) spells = refl
        by_what (Fact fact) spells = refl
        by_what (Node other e) spells = by_version other e spells (same_version version other) refl
        by_what End spells = absurd (no_end spells)

  -- ---- after the end

  pub bad_after : HasFault n After bytes (fault.BadLine n)
  bad_after = misspelt {stage = After} cut by_what
    where
      by_what : (what : What) → Spells text what → judged n After what ≡ None
      by_what Note spells = refl
      by_what (Header version) spells = refl
      by_what (Fact fact) spells = refl
      by_what (Node version e) spells = refl
      by_what End spells = refl

pub truncated : (n : ℕ) (bytes : List ℕ) → is_line bytes ≡ true → bytes ≢ [] → HasFault n After bytes (fault.Truncated n)
truncated n [] e some = absurd (some refl)
truncated n (b ∷ bytes) e some = cut_off e refl

-- ---- what was read

pub notes_more : (bytes rest text after : List ℕ) → NotesRead bytes rest → IsCut rest text after → is_note text ≡ true → NotesRead bytes after
notes_more bytes rest text after read cut note = record {
  notes = read.notes ++ text ∷ [];
  are_notes = all_append (λ t. is_note t && is_line t) read.notes (text ∷ []) read.are_notes (and_from (is_note text && is_line text) true (and_from (is_note text) (is_line text) note cut.whole) refl);
  text =
      read.text ∙ ap (λ (t : List ℕ). flat_map line read.notes ++ t) cut.bytes_are
      ∙ sym (append_assoc (flat_map line read.notes) (line text) after)
      ∙ ap (λ (t : List ℕ). t ++ after) (ap (λ (t : List ℕ). flat_map line read.notes ++ t) (sym (append-nil (line text))) ∙ sym (flat_map-append line read.notes (text ∷ [])));
}

lines_more : {A : Type 0} (f : A → List ℕ) (xs : List A) (x : A) (bytes rest text after : List ℕ) → bytes ≡ flat_map line (map f xs) ++ rest → IsCut rest text after → text ≡ f x → bytes ≡ flat_map line (map f (xs ++ x ∷ [])) ++ after
lines_more f xs x bytes rest text after read cut is =
    let front = flat_map line (map f xs) in
    read ∙ ap (λ (t : List ℕ). front ++ t) cut.bytes_are ∙ sym (append_assoc front (line text) after)
    ∙ ap (λ (t : List ℕ). t ++ after)
    (ap (λ (t : List ℕ). front ++ t) (ap line is ∙ sym (append-nil (line (f x)))) ∙ sym (flat_map-append line (map f xs) (f x ∷ [])) ∙ ap (flat_map line) (sym (map-push f xs x)))

pub facts_more : (bytes : List ℕ) (old new : Values) (fact : ℕ × List ℕ) (rest text after : List ℕ) → FactsRead bytes old rest → fin.entries new ≡ fin.entries old ++ fact ∷ [] → IsByteFact fact → IsCut rest text after → text ≡ fact_text fact → FactsRead bytes new after
facts_more bytes old new fact rest text after read added fits cut is = record {
  fit = subst (λ (es : List (ℕ × List ℕ)). list_all is_byte_fact es ≡ true) (sym added) (all_append is_byte_fact (fin.entries old) (fact ∷ []) read.fit (and_from (is_byte_fact fact) true fits refl));
  text = subst (λ (es : List (ℕ × List ℕ)). bytes ≡ flat_map line (map fact_text es) ++ after) (sym added) (lines_more fact_text (fin.entries old) fact bytes rest text after read.text cut is);
}

all_by_append : {A : Type 0} (P : A → Type 0) (xs : List A) (x : A) → AllByRecursion P xs → P x → AllByRecursion P (xs ++ x ∷ [])
all_by_append P [] x all is = (is, tt)
all_by_append P (y ∷ ys) x all is = (all.0, all_by_append P ys x all.1 is)

pub tree_more : (version : Version) (bytes : List ℕ) (old new : Files) (e : Path × Object) (rest text after : List ℕ) → TreeRead version bytes old rest → fin.entries new ≡ fin.entries old ++ e ∷ [] → IsEntry version e → IsCut rest text after → text ≡ node_text version e
    → TreeRead version bytes new after
tree_more version bytes old new e rest text after read added entry cut is = record {
  shown = subst (AllByRecursion (λ x. Shows version (extras_of x.1))) (sym added) (all_by_append (λ x. Shows version (extras_of x.1)) (fin.entries old) e read.shown entry.shown);
  text = subst (λ (es : List (Path × Object)). bytes ≡ flat_map line (map (node_text version) es) ++ after) (sym added) (lines_more (node_text version) (fin.entries old) e bytes rest text after read.text cut is);
}

pub tree_one : (version : Version) (bytes : List ℕ) (files : Files) (e : Path × Object) (text after : List ℕ) → fin.entries files ≡ e ∷ [] → IsEntry version e → IsCut bytes text after → text ≡ node_text version e → TreeRead version bytes files after
tree_one version bytes files e text after one entry cut is = record {
  shown = subst (AllByRecursion (λ x. Shows version (extras_of x.1))) (sym one) (entry.shown, tt);
  text = subst (λ (es : List (Path × Object)). bytes ≡ flat_map line (map (node_text version) es) ++ after) (sym one) (lines_more (node_text version) [] e bytes bytes text after refl cut is);
}

-- ---- the last letter

follows_push : {K X : Type 0} → (R : K → K → Ordering) (es : List (K × X)) (e : K × X) (key : K) → follows R (es ++ e ∷ []) key ≡ is_lt (R e.0 key)
follows_push R [] e key = refl
follows_push R (x ∷ []) e key = refl
follows_push R (x ∷ y ∷ es) e key = follows_push R (y ∷ es) e key

pub path_more : (old new : Files) (e : Path × Object) → fin.entries new ≡ fin.entries old ++ e ∷ [] → IsLastPath new e.0
path_more old new e added path = sym (ap (λ (es : List (Path × Object)). follows path_cmp es path) added ∙ follows_push path_cmp (fin.entries old) e path)

pub root_last : (files : Files) (e : Path × Object) → is_root e ≡ true → fin.entries files ≡ e ∷ [] → IsLastPath files []
root_last files e root one path =
    let is : e.0 ≡ [] = (same_path-decides e.0 []).0 (and_parts (same_path e.0 []) (is_directory e.1.node.kind) root).0 in
    ap (λ (p : Path). is_lt (path_cmp p path)) (sym is) ∙ sym (ap (λ (es : List (Path × Object)). follows path_cmp es path) one)

-- a node that follows the last one, in a directory that was read before, and in none
module _ (n : ℕ) (files : Files) (last : Path) (e : Path × Object) (is_last : IsLastPath files last) (version : Version) where
  pub node_placed : is_lt (path_cmp last e.0) ≡ true → IsKind Directory files (parent_of e.0) → judged n (InNodes version (fin.entries files)) (Node version e) ≡ Some (Ok (InNodes version (fin.entries files ++ e ∷ [])))
  node_placed less kind =
      let after : follows path_cmp (fin.entries files) e.0 ≡ true = sym (is_last e.0) ∙ less in
      let there : has_parent (fin.entries files) e.0 ≡ true = sym (has_parent-from_kind files e.0 true (λ yes. kind) (λ k. refl)) in
      rw (same_version-self version, after, there) refl

  pub node_orphan : is_lt (path_cmp last e.0) ≡ true → (IsKind Directory files (parent_of e.0) → ⊥) → judged n (InNodes version (fin.entries files)) (Node version e) ≡ Some (Err (fault.NoParent n))
  node_orphan less orphan =
      let after : follows path_cmp (fin.entries files) e.0 ≡ true = sym (is_last e.0) ∙ less in
      let there : has_parent (fin.entries files) e.0 ≡ false = sym (has_parent-from_kind files e.0 false (λ no. absurd (let bad : false ≡ true = no in cc)) (λ k. absurd (orphan k))) in
      rw (same_version-self version, after, there) refl

pub last_more : (old new : Values) (fact : ℕ × List ℕ) → fin.entries new ≡ fin.entries old ++ fact ∷ [] → IsLast new (Some fact.0)
last_more old new fact added letter = sym (ap (λ (es : List (ℕ × List ℕ)). follows nat_cmp es letter) added ∙ follows_push nat_cmp (fin.entries old) fact letter)

-- ---- the whole

-- what holds of each object of a list holds of what is found there
found_all : (P : Object → Type 0) (es : List (Path × Object)) (path : Path) (o : Object) → AllByRecursion (λ e. P e.1) es → fin.find path_cmp path es ≡ Some o → P o
found_all P [] path o all here = cc
found_all P (e ∷ es) path o all here = by_test (found_all P es path o all.1) (eq_by_cmp path_cmp path e.0) refl
  where
    by_test : (fin.find path_cmp path es ≡ Some o → P o) → (t : Bool) → eq_by_cmp path_cmp path e.0 ≡ t → P o
    by_test below true q = let first : Some e.1 ≡ Some o = rw q at here in let same : e.1 ≡ o = cc in subst P same all.0
    by_test below false q = below (rw q at here)

-- an image read to its end is one
pub whole_image : (version : Version) (bytes : List ℕ) (facts : Values) (files : Files) (after_header after_facts rest : List ℕ) → NotesRead bytes (line (header_text version) ++ after_header) → FactsRead after_header facts after_facts
    → TreeRead version after_facts files (line end_text ++ rest) → rest ≡ [] → IsTree files → IsImage bytes facts files
whole_image version bytes facts files after_header after_facts rest notes read tree none is = record {
  version = version;
  notes = notes.notes;
  are_notes = notes.are_notes;
  fit = record { facts_fit = read.fit; tree = is; shown = λ path o here. found_all (λ x. Shows version (extras_of x)) (fin.entries files) path o tree.shown (sym (fin.get-entries files path) ∙ here) };
  text =
      let front = flat_map line notes.notes in
      let f = flat_map line (map fact_text (fin.entries facts)) in
      let n = flat_map line (map (node_text version) (fin.entries files)) in
      let parts : after_header ≡ f ++ (n ++ (line end_text ++ [])) = read.text ∙ ap (λ (t : List ℕ). f ++ t) (tree.text ∙ ap (λ (t : List ℕ). n ++ (line end_text ++ t)) none) in
      let joined : flat_map line (header_text version ∷ map fact_text (fin.entries facts) ++ map (node_text version) (fin.entries files) ++ end_text ∷ []) ≡ line (header_text version) ++ (f ++ (n ++ (line end_text ++ []))) =
      ap (λ (t : List ℕ). line (header_text version) ++ t) (flat_map-append line (map fact_text (fin.entries facts) ++ map (node_text version) (fin.entries files)) (end_text ∷ [])
      ∙ ap (λ (t : List ℕ). t ++ (line end_text ++ [])) (flat_map-append line (map fact_text (fin.entries facts)) (map (node_text version) (fin.entries files)))
      ∙ append_assoc f n (line end_text ++ [])) in
      notes.text ∙ ap (λ (t : List ℕ). front ++ (line (header_text version) ++ t)) parts ∙ ap (λ (t : List ℕ). front ++ t) (sym joined);
}

-- ---- no line is too long

never_rooted : (n : ℕ) (version : Version) (x : Path × Object) → after_root n version x ≡ Err fault.TooLong → ⊥
never_rooted n version x e = by_test (is_root x) refl
  where
    by_test : (t : Bool) → is_root x ≡ t → ⊥
    by_test true q = let h = rw q at e in cc h
    by_test false q = let h = rw q at e in cc h

never_added : (n : ℕ) (version : Version) (entries : List (Path × Object)) (x : Path × Object) → after_node n version entries x ≡ Err fault.TooLong → ⊥
never_added n version entries x e = by_test (follows path_cmp entries x.0) refl (has_parent entries x.0) refl
  where
    by_test : (t : Bool) → follows path_cmp entries x.0 ≡ t → (u : Bool) → has_parent entries x.0 ≡ u → ⊥
    by_test true q true p = let h = rw (q, p) at e in cc h
    by_test true q false p = let h = rw (q, p) at e in cc h
    by_test false q u p = let h = rw q at e in cc h

-- what is some result under a test
under_test : (t : Bool) (r s : Result Stage ImageFault) → (if t then Some r else None) ≡ Some s → r ≡ s
under_test true r s e = cc
under_test false r s e = cc

never_judged : (n : ℕ) (stage : Stage) (what : What) → judged n stage what ≡ Some (Err fault.TooLong) → ⊥
never_judged n Before Note e = cc
never_judged n Before (Header version) e = cc
never_judged n Before (Fact fact) e = cc
never_judged n Before (Node version x) e = cc
never_judged n Before End e = cc
never_judged n (InFacts version facts) Note e = cc
never_judged n (InFacts version facts) (Header other) e = cc
never_judged n (InFacts version facts) (Fact fact) e = by_test (follows nat_cmp facts fact.0) refl
  where
    by_test : (t : Bool) → follows nat_cmp facts fact.0 ≡ t → ⊥
    by_test true q = let h = rw q at e in cc h
    by_test false q = let h = rw q at e in cc h
never_judged n (InFacts version facts) (Node other x) e = never_rooted n version x (under_test (same_version version other) (after_root n version x) (Err fault.TooLong) e)
never_judged n (InFacts version facts) End e = cc
never_judged n (InNodes version entries) Note e = cc
never_judged n (InNodes version entries) (Header other) e = cc
never_judged n (InNodes version entries) (Fact fact) e = cc
never_judged n (InNodes version entries) (Node other x) e = never_added n version entries x (under_test (same_version version other) (after_node n version entries x) (Err fault.TooLong) e)
never_judged n (InNodes version entries) End e = cc
never_judged n After Note e = cc
never_judged n After (Header version) e = cc
never_judged n After (Fact fact) e = cc
never_judged n After (Node version x) e = cc
never_judged n After End e = cc

never_bad : (n : ℕ) (stage : Stage) → bad n stage ≡ fault.TooLong → ⊥
never_bad n Before e = cc
never_bad n (InFacts version facts) e = cc
never_bad n (InNodes version entries) e = cc
never_bad n After e = cc

-- no bytes have the fault that the top call gives
pub never_long : (n : ℕ) (stage : Stage) (bytes : List ℕ) (f : ImageFault) → HasFault n stage bytes f → f ≢ fault.TooLong
never_long n stage bytes f (cut_off none unended) e = cc
never_long n stage bytes f (misspelt {stage = s} cut none) e = never_bad n s e
never_long n stage bytes f (misplaced what cut spells is) e = never_judged n stage what (is ∙ ap (λ (g : ImageFault). Some (Err g)) e)
never_long n stage bytes f (later {next = next} {rest = rest} what cut spells is more) e = never_long (suc n) next rest f more e

-- ---- the first line is one

feed_first : (x : ℕ) (t : List ℕ) → is_line (x ∷ t) ≡ true → x ≡ 10 → ⊥
feed_first x t e is = let here : not (x == 10) ≡ true = (and_parts (not (x == 10)) (is_line t) e).0 in let bad : not (10 == 10) ≡ true = subst (λ (y : ℕ). not (y == 10) ≡ true) is here in let no : not (10 == 10) ≡ false = refl in cc

one_front : (t u r s : List ℕ) → is_line t ≡ true → is_line u ≡ true → t ++ 10 ∷ r ≡ u ++ 10 ∷ s → (t ≡ u) × (r ≡ s)
one_front [] [] r s p q e = (refl, cc)
one_front [] (y ∷ u) r s p q e = absurd (feed_first y u q (let h : y ≡ 10 = cc in h))
one_front (x ∷ t) [] r s p q e = absurd (feed_first x t p (let h : x ≡ 10 = cc in h))
one_front (x ∷ t) (y ∷ u) r s p q e =
    let rest : t ++ 10 ∷ r ≡ u ++ 10 ∷ s = cc in
    let first : x ≡ y = cc in
    let below = one_front t u r s (and_parts (not (x == 10)) (is_line t) p).1 (and_parts (not (y == 10)) (is_line u) q).1 rest in
    (let same : t ≡ u = below.0 in cc, below.1)

pub one_cut : (bytes t u r s : List ℕ) → IsCut bytes t r → IsCut bytes u s → (t ≡ u) × (r ≡ s)
one_cut bytes t u r s a b = one_front t u r s a.whole b.whole (sym (append_assoc t (10 ∷ []) r) ∙ sym a.bytes_are ∙ b.bytes_are ∙ append_assoc u (10 ∷ []) s)

-- what is no fact stays none
pub no_fact_next : (bytes text rest : List ℕ) → IsCut bytes text rest → ((fact : ℕ × List ℕ) → IsByteFact fact → text ≢ fact_text fact) → HasNoFactNext bytes
no_fact_next bytes text rest cut none other after again fact is e = none fact is ((one_cut bytes text other rest after cut again).0 ∙ e)

-- ---- no facts

facts_none : (facts : Values) → facts ≡ fin.empty → fin.entries facts ≡ []
facts_none facts e = ap (λ (m : Values). fin.entries m) e ∙ nil_from_length (fin.entries (fin.empty {X = List ℕ} {R = nat_cmp})) (sym (fin.len-entries (fin.empty {X = List ℕ} {R = nat_cmp})) ∙ fin.len-empty nat_cmp (List ℕ))

module _ (facts : Values) (empty : facts ≡ fin.empty) where
  pub none_leads : (version : Version) (n : ℕ) (bytes : List ℕ) → Leads n (InFacts version []) bytes n (InFacts version (fin.entries facts)) bytes
  none_leads version n bytes f h = subst (λ (es : List (ℕ × List ℕ)). HasFault n (InFacts version es) bytes f) (facts_none facts empty) h

  pub none_read : (bytes : List ℕ) → FactsRead bytes facts bytes
  none_read bytes = record {
    fit = subst (λ (es : List (ℕ × List ℕ)). list_all is_byte_fact es ≡ true) (sym (facts_none facts empty)) refl;
    text = subst (λ (es : List (ℕ × List ℕ)). bytes ≡ flat_map line (map fact_text es) ++ bytes) (sym (facts_none facts empty)) refl;
  }

  pub none_last : IsLast facts None
  none_last letter = subst (λ (es : List (ℕ × List ℕ)). true ≡ follows nat_cmp es letter) (sym (facts_none facts empty)) refl

-- ---- the first node

pub root_fails : (version : Version) (n : ℕ) (facts : List (ℕ × List ℕ)) (bytes text rest : List ℕ) (e : Path × Object) (f : ImageFault) → IsCut bytes text rest → IsEntry version e × (text ≡ node_text version e) → (f ≢ fault.Memory → (is_root e ≡ false) × (f ≡ fault.NoParent n))
    → Fails n (InFacts version facts) bytes f
root_fails version n facts bytes text rest e fault.TooLong cut read refused = let r = refused (λ x. cc) in subst (λ (g : ImageFault). HasFault n (InFacts version facts) bytes g) (sym r.1) (no_root n bytes text rest cut version facts e read.0 read.1 r.0)
root_fails version n facts bytes text rest e (fault.BadHeader k) cut read refused = let r = refused (λ x. cc) in subst (λ (g : ImageFault). HasFault n (InFacts version facts) bytes g) (sym r.1) (no_root n bytes text rest cut version facts e read.0 read.1 r.0)
root_fails version n facts bytes text rest e (fault.BadLine k) cut read refused = let r = refused (λ x. cc) in subst (λ (g : ImageFault). HasFault n (InFacts version facts) bytes g) (sym r.1) (no_root n bytes text rest cut version facts e read.0 read.1 r.0)
root_fails version n facts bytes text rest e (fault.OutOfOrder k) cut read refused = let r = refused (λ x. cc) in subst (λ (g : ImageFault). HasFault n (InFacts version facts) bytes g) (sym r.1) (no_root n bytes text rest cut version facts e read.0 read.1 r.0)
root_fails version n facts bytes text rest e (fault.NoParent k) cut read refused = let r = refused (λ x. cc) in subst (λ (g : ImageFault). HasFault n (InFacts version facts) bytes g) (sym r.1) (no_root n bytes text rest cut version facts e read.0 read.1 r.0)
root_fails version n facts bytes text rest e (fault.Truncated k) cut read refused = let r = refused (λ x. cc) in subst (λ (g : ImageFault). HasFault n (InFacts version facts) bytes g) (sym r.1) (no_root n bytes text rest cut version facts e read.0 read.1 r.0)
root_fails version n facts bytes text rest e fault.Memory cut read refused = tt

pub first_fails : (version : Version) (n : ℕ) (facts : List (ℕ × List ℕ)) (bytes text rest : List ℕ) (f : ImageFault) → IsCut bytes text rest → HasNoFactNext bytes → ((e : Path × Object) → IsEntry version e → text ≢ node_text version e)
    → ((f ≡ fault.NoParent n) × (text ≡ end_text)) ⊎ ((f ≡ fault.BadLine n) × (text ≢ end_text)) → Fails n (InFacts version facts) bytes f
first_fails version n facts bytes text rest f cut next no_node (inl (is, ended)) =
    subst (λ (g : ImageFault). Fails n (InFacts version facts) bytes g) (sym is) (no_nodes n bytes text rest cut version facts ended)
first_fails version n facts bytes text rest f cut next no_node (inr (is, other)) =
    subst (λ (g : ImageFault). Fails n (InFacts version facts) bytes g) (sym is) (bad_first n bytes text rest cut version facts (next text rest cut) no_node other)

pub root_leads : (version : Version) (n : ℕ) (facts : List (ℕ × List ℕ)) (bytes text rest : List ℕ) (e : Path × Object) (files : Files) → IsCut bytes text rest → IsEntry version e × (text ≡ node_text version e) → is_root e ≡ true → fin.entries files ≡ e ∷ []
    → Leads n (InFacts version facts) bytes (n + 1) (InNodes version (fin.entries files)) rest
root_leads version n facts bytes text rest e files cut read root one =
    let is : judged n (InFacts version facts) (Node version e) ≡ Some (Ok (InNodes version (e ∷ []))) = rw (same_version-self version, root) refl in
    subst (λ (es : List (Path × Object)). Leads n (InFacts version facts) bytes (n + 1) (InNodes version es) rest) (sym one)
    (leads_on n (InFacts version facts) bytes n (InFacts version facts) (InNodes version (e ∷ [])) text bytes rest (Node version e) (leads_none n (InFacts version facts) bytes) cut read is)

-- one node, or one fact, more
pub nodes_on : (version : Version) (n : ℕ) (stage : Stage) (bytes : List ℕ) (m : ℕ) (old new : Files) (e : Path × Object) (text rest after : List ℕ) → Leads n stage bytes m (InNodes version (fin.entries old)) rest → IsCut rest text after → IsEntry version e × (text ≡ node_text version e)
    → judged m (InNodes version (fin.entries old)) (Node version e) ≡ Some (Ok (InNodes version (fin.entries old ++ e ∷ []))) → fin.entries new ≡ fin.entries old ++ e ∷ [] → Leads n stage bytes (m + 1) (InNodes version (fin.entries new)) after
nodes_on version n stage bytes m old new e text rest after lead cut read is added =
    subst (λ (es : List (Path × Object)). Leads n stage bytes (m + 1) (InNodes version es) after) (sym added)
    (leads_on n stage bytes m (InNodes version (fin.entries old)) (InNodes version (fin.entries old ++ e ∷ [])) text rest after (Node version e) lead cut read is)

pub facts_on : (version : Version) (n : ℕ) (stage : Stage) (bytes : List ℕ) (m : ℕ) (old new : Values) (fact : ℕ × List ℕ) (text rest after : List ℕ) → Leads n stage bytes m (InFacts version (fin.entries old)) rest → IsCut rest text after → IsByteFact fact × (text ≡ fact_text fact)
    → judged m (InFacts version (fin.entries old)) (Fact fact) ≡ Some (Ok (InFacts version (fin.entries old ++ fact ∷ []))) → fin.entries new ≡ fin.entries old ++ fact ∷ [] → Leads n stage bytes (m + 1) (InFacts version (fin.entries new)) after
facts_on version n stage bytes m old new fact text rest after lead cut read is added =
    subst (λ (es : List (ℕ × List ℕ)). Leads n stage bytes (m + 1) (InFacts version es) after) (sym added)
    (leads_on n stage bytes m (InFacts version (fin.entries old)) (InFacts version (fin.entries old ++ fact ∷ [])) text rest after (Fact fact) lead cut read is)

-- the end is read
pub tree_end : (version : Version) (bytes : List ℕ) (files : Files) (rest text after : List ℕ) → TreeRead version bytes files rest → IsCut rest text after → text ≡ end_text → TreeRead version bytes files (line end_text ++ after)
tree_end version bytes files rest text after read cut is = record {
  shown = read.shown;
  text = read.text ∙ ap (λ (t : List ℕ). flat_map line (map (node_text version) (fin.entries files)) ++ t) (cut.bytes_are ∙ ap (λ (t : List ℕ). line t ++ after) is);
}
