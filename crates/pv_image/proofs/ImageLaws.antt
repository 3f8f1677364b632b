-- An image has no fault, and bytes are an image of one pair of facts and tree, or have one fault.
use Rattle.std.proofs.Common.{◌≡◌, ◌≢◌, ℕ, suc, true, false, not, ◌&&◌, ◌==◌, List, [], ◌∷◌, ◌++◌, map, Option, Some, None, Result, Ok, Err, IfOk, IfErr, inl, inr, ◌⊎◌, is_some, cond, refl, sym, ap, ◌∙◌, subst, T, append_assoc, append-nil}
use Rattle.std.specs.List.{AllByRecursion, cons_option, filter_map, flat_map, list_all}
use Rattle.std.specs.Ordering.{eq_by_cmp, is_lt, nat_cmp}
use Rattle.std.specs.Cmp.{IsTotalOrder, tied_itself}
use Rattle.std.specs.FinMap as fin
use Rattle.std.specs.FinMap.Entries.{below_all}
use Rattle.std.specs.declared.cmp.Ordering.{Ordering}
use Rattle.std.specs.declared.cmp.Ordering.TheVariants.{Less, Greater}
use Rattle.std.proofs.lemmas.List.Concat.{flat_map-append}
use Rattle.std.proofs.lemmas.Bool.{and_parts, and_from}
use Rattle.pv_path.specs.Paths.{Path, parent_of, path_cmp, path_total, same_path}
use Rattle.pv_path.proofs.PathLaws.{parent_of-less}
use Rattle.pv_steps.specs.Objects.{is_directory}
use Rattle.pv_steps.specs.declared.node.Kind.TheVariants.{Directory}
use Rattle.pv_steps.specs.declared.object.Object.{Object}
use Rattle.pv_steps.specs.Trees.{Files, IsTree, kind_of, places}
use Rattle.pv_text.specs.Facts.{Values}
use Rattle.pv_image.specs.Spelling.{IsEntry, Shows, end_text, extras_of, fact_text, header_text, line, node_text, old_text_of, text_in, text_of}
use Rattle.pv_text.specs.Lines.{is_line}
use Rattle.pv_image.specs.Images.{HasFault, cut_off, misspelt, misplaced, later, HasImageFault, HaveText, IsCut, IsImage, Spells, Stage, Before, InFacts, InNodes, After, What, Note, Header, Fact, Node, End, follows, has_parent, is_byte_fact, is_note, is_root, judged}
use Rattle.pv_image.specs.Progress.{Fails}
use Rattle.pv_image.specs.declared.image_fault.ImageFault.{ImageFault}
use Rattle.pv_image.specs.declared.image_fault.ImageFault.TheVariants as fault
use Rattle.pv_image.specs.declared.version.Version.{Version}
use Rattle.pv_image.specs.declared.version.Version.TheVariants.{One, Two}
use Rattle.pv_text.proofs.Characters.{all_append, all_back}
use Rattle.pv_image.proofs.Facts.{fact_whole}
use Rattle.pv_image.proofs.Order.{any_dir, dir_at, turned}
use Rattle.pv_image.proofs.Solid.{node_whole}
use Rattle.pv_image.proofs.Stages.{one_cut, same_version-self}
use Rattle.pv_image.proofs.OnceLine.{spells_once}
use Rattle.pv_path.proofs.Tests.{less_of-T, each_T, both_T}

-- ---- one line on

no_feed_in : (text rest : List ℕ) → is_line (line text ++ rest) ≡ true → ⊥
no_feed_in text rest e =
    let glued : line text ++ rest ≡ text ++ 10 ∷ rest = append_assoc text (10 ∷ []) rest in
    let back : is_line (10 ∷ rest) ≡ true = all_back (λ b. not (b == 10)) text (10 ∷ rest) (rw glued at e) in
    let no : is_line (10 ∷ rest) ≡ false = refl in
    cc

-- what a line says, says what follows
pub step_on : (n : ℕ) (stage next : Stage) (bytes text rest : List ℕ) (what : What) (f : ImageFault) → IsCut bytes text rest → Spells text what → judged n stage what ≡ Some (Ok next) → HasFault n stage bytes f → HasFault (suc n) next rest f
step_on n stage next bytes text rest what f cut spells is (cut_off none unended) = absurd (no_feed_in text rest (subst (λ (t : List ℕ). is_line t ≡ true) cut.bytes_are none))
step_on n stage next bytes text rest what f cut spells is (misspelt {text = other} {rest = after} again none) =
    let same = one_cut bytes text other rest after cut again in
    absurd (let nothing : judged n stage what ≡ None = none what (subst (λ (t : List ℕ). Spells t what) same.0 spells) in let bad : None ≡ Some (Ok next) = sym nothing ∙ is in cc)
step_on n stage next bytes text rest what f cut spells is (misplaced {text = other} {rest = after} new_messages again says wrong) =
    let same = one_cut bytes text other rest after cut again in
    let one : new_messages ≡ what = spells_once other new_messages what says (subst (λ (t : List ℕ). Spells t what) same.0 spells) in
    absurd (let bad : Some (Err f) ≡ Some (Ok next) = sym wrong ∙ ap (judged n stage) one ∙ is in cc)
step_on n stage next bytes text rest what f cut spells is (later {next = on} {text = other} {rest = after} new_messages again says right more) =
    let same = one_cut bytes text other rest after cut again in
    let one : new_messages ≡ what = spells_once other new_messages what says (subst (λ (t : List ℕ). Spells t what) same.0 spells) in
    let both : Some (Ok on) ≡ Some (Ok next) = sym right ∙ ap (judged n stage) one ∙ is in
    let stages : on ≡ next = cc in
    subst (λ (b : List ℕ). HasFault (suc n) next b f) (sym same.1) (subst (λ (s : Stage). HasFault (suc n) s after f) stages more)

-- the line of a text is cut off
pub first_cut : (text rest : List ℕ) → is_line text ≡ true → IsCut (line text ++ rest) text rest
first_cut text rest e = record { bytes_are = refl; whole = e }

-- ---- lists that are in order

module _ {K X : Type 0} (R : K → K → Ordering) where
  below_back : (k : K) (done : List (K × X)) (e : K × X) (es : List (K × X)) → T (below_all R k (done ++ e ∷ es)) → R k e.0 ≡ Less
  below_back k [] e es h = less_of-T (R k e.0) (each_T (is_lt (R k e.0)) (below_all R k es) h).0
  below_back k (x ∷ done) e es h = below_back k done e es (each_T (is_lt (R k x.0)) (below_all R k (done ++ e ∷ es)) h).1

  -- the next entry follows those before it
  follows_sorted : (done : List (K × X)) (e : K × X) (es : List (K × X)) → T (fin.is_sorted R (done ++ e ∷ es)) → follows R done e.0 ≡ true
  follows_sorted [] e es h = refl
  follows_sorted (x ∷ []) e es h = ap is_lt (below_back x.0 [] e es (each_T (below_all R x.0 (e ∷ es)) (fin.is_sorted R (e ∷ es)) h).0)
  follows_sorted (x ∷ y ∷ done) e es h = follows_sorted (y ∷ done) e es (each_T (below_all R x.0 (y ∷ done ++ e ∷ es)) (fin.is_sorted R (y ∷ done ++ e ∷ es)) h).1

  below_front : (k : K) (done es : List (K × X)) → T (below_all R k (done ++ es)) → T (below_all R k done)
  below_front k [] es h = tt
  below_front k (x ∷ done) es h = both_T (is_lt (R k x.0)) (below_all R k done) (each_T (is_lt (R k x.0)) (below_all R k (done ++ es)) h).0 (below_front k done es (each_T (is_lt (R k x.0)) (below_all R k (done ++ es)) h).1)

  sorted_front : (done es : List (K × X)) → T (fin.is_sorted R (done ++ es)) → T (fin.is_sorted R done)
  sorted_front [] es h = tt
  sorted_front (x ∷ done) es h =
      both_T (below_all R x.0 done) (fin.is_sorted R done) (below_front x.0 done es (each_T (below_all R x.0 (done ++ es)) (fin.is_sorted R (done ++ es)) h).0)
      (sorted_front done es (each_T (below_all R x.0 (done ++ es)) (fin.is_sorted R (done ++ es)) h).1)

  module _ (o : IsTotalOrder R) where
    -- an entry is found at its key
    find_at : (done : List (K × X)) (e : K × X) (es : List (K × X)) → T (fin.is_sorted R (done ++ e ∷ es)) → fin.find R e.0 (done ++ e ∷ es) ≡ Some e.1
    find_at [] e es h = rw (tied_itself o e.0) refl
    find_at (x ∷ done) e es h =
        let less : R x.0 e.0 ≡ Less = below_back x.0 done e es (each_T (below_all R x.0 (done ++ e ∷ es)) (fin.is_sorted R (done ++ e ∷ es)) h).0 in
        let greater : R e.0 x.0 ≡ Greater = turned o x.0 e.0 (ap is_lt less) in
        rw greater (find_at done e es (each_T (below_all R x.0 (done ++ e ∷ es)) (fin.is_sorted R (done ++ e ∷ es)) h).1)

    find_below : (q k : K) (es : List (K × X)) → R q k ≡ Less → T (below_all R k es) → fin.find R q es ≡ None
    find_below q k [] less h = refl
    find_below q k (x ∷ es) less h =
        let next : R k x.0 ≡ Less = less_of-T (R k x.0) (each_T (is_lt (R k x.0)) (below_all R k es) h).0 in
        let far : R q x.0 ≡ Less = o.trans q k x.0 less next in
        rw far (find_below q k es less (each_T (is_lt (R k x.0)) (below_all R k es) h).1)

    -- what is less than an entry is found before it
    find_front : (q : K) (done : List (K × X)) (e : K × X) (es : List (K × X)) → T (fin.is_sorted R (done ++ e ∷ es)) → R q e.0 ≡ Less → fin.find R q (done ++ e ∷ es) ≡ fin.find R q done
    find_front q [] e es h less = rw less (find_below q e.0 es less (each_T (below_all R e.0 es) (fin.is_sorted R es) h).0)
    find_front q (x ∷ done) e es h less =
        ap (cond (eq_by_cmp R q x.0) (Some x.1)) (find_front q done e es (each_T (below_all R x.0 (done ++ e ∷ es)) (fin.is_sorted R (done ++ e ∷ es)) h).1 less)

-- ---- trees

module _ (files : Files) (is : IsTree files) where
  abbrev all : List (Path × Object)
  all = fin.entries files

  sorted_at : (done : List (Path × Object)) (es : List (Path × Object)) → all ≡ done ++ es → T (fin.is_sorted path_cmp (done ++ es))
  sorted_at done es e = subst (λ (xs : List (Path × Object)). T (fin.is_sorted path_cmp xs)) e (fin.entries_sorted files)

  there : (done : List (Path × Object)) (e : Path × Object) (es : List (Path × Object)) → all ≡ done ++ e ∷ es → places files e.0 ≡ Some e.1
  there done e es whole =
      fin.get-entries files e.0 ∙ ap (fin.find path_cmp e.0) whole ∙ find_at path_cmp path_total done e es (sorted_at done (e ∷ es) whole)

  entries_are : (version : Version) → ((path : Path) (o : Object) → places files path ≡ Some o → Shows version (extras_of o)) → (done es : List (Path × Object)) → all ≡ done ++ es → AllByRecursion (IsEntry version) es
  entries_are version shown done [] whole = tt
  entries_are version shown done (e ∷ es) whole =
      let here = there done e es whole in
      (record { path = is.names e.0 (ap is_some here); object = is.objects e.0 e.1 here; shown = shown e.0 e.1 here }, entries_are version shown (done ++ e ∷ []) es (whole ∙ sym (append_assoc done (e ∷ []) es)))

  -- the directory of each path but the root is among those before it
  parent_before : (done : List (Path × Object)) (e : Path × Object) (es : List (Path × Object)) → all ≡ done ++ e ∷ es → e.0 ≢ [] → has_parent done e.0 ≡ true
  unfolding dir_at
  parent_before done e es whole other = by_place (places files (parent_of e.0)) refl (is.parents e.0 (ap is_some (there done e es whole)) other)
    where
      at_front : fin.find path_cmp (parent_of e.0) done ≡ places files (parent_of e.0)
      at_front = sym (find_front path_cmp path_total (parent_of e.0) done e es (sorted_at done (e ∷ es) whole) (parent_of-less e.0 other)) ∙ sym (ap (fin.find path_cmp (parent_of e.0)) whole) ∙ sym (fin.get-entries files (parent_of e.0))

      by_place : (o : Option Object) → places files (parent_of e.0) ≡ o → kind_of (places files (parent_of e.0)) ≡ Some Directory → has_parent done e.0 ≡ true
      by_place None q kind = absurd (let bad : None ≡ Some Directory = rw q at kind in cc)
      by_place (Some o) q kind =
          let dir : Some o.node.kind ≡ Some Directory = rw q at kind in
          let is_dir : o.node.kind ≡ Directory = cc in
          any_dir (parent_of e.0) done (sorted_front path_cmp done (e ∷ es) (sorted_at done (e ∷ es) whole)) ∙ ap dir_at (at_front ∙ q) ∙ ap is_directory is_dir

  -- the first entry is the root
  root_first : (es : List (Path × Object)) → all ≡ es → (e : Path × Object) × (rest : List (Path × Object)) × (es ≡ e ∷ rest) × (is_root e ≡ true)
  root_first [] whole = absurd (let nothing : places files [] ≡ None = fin.get-entries files [] ∙ ap (fin.find path_cmp []) whole in let bad : None ≡ Some Directory = rw nothing at is.root in cc)
  root_first (e ∷ rest) whole = (e, rest, refl, by_path e.0 refl)
    where
      by_path : (p : Path) → e.0 ≡ p → is_root e ≡ true
      by_path [] q =
          let here : places files [] ≡ Some e.1 = ap (places files) (sym q) ∙ there [] e rest whole in
          let kind : Some e.1.node.kind ≡ Some Directory = rw here at is.root in
          let dir : e.1.node.kind ≡ Directory = cc in
          and_from (same_path e.0 []) (is_directory e.1.node.kind) (ap (λ (x : Path). same_path x []) q) (ap is_directory dir)
      by_path (n ∷ p) q =
          let less : path_cmp [] e.0 ≡ Less = ap (path_cmp []) q in
          let none : fin.find path_cmp [] rest ≡ None = find_below path_cmp path_total [] e.0 rest less (each_T (below_all path_cmp e.0 rest) (fin.is_sorted path_cmp rest) (sorted_at [] (e ∷ rest) whole)).0 in
          let nothing : fin.find path_cmp [] (e ∷ rest) ≡ None = rw less none in
          absurd (let gone : places files [] ≡ None = fin.get-entries files [] ∙ ap (fin.find path_cmp []) whole ∙ nothing in let bad : None ≡ Some Directory = rw gone at is.root in cc)

  -- the entries after the first are not the root
  not_root : (x : Path × Object) (done : List (Path × Object)) (e : Path × Object) (es : List (Path × Object)) → all ≡ (x ∷ done) ++ e ∷ es → e.0 ≢ []
  not_root x done e es whole root =
      let less : path_cmp x.0 e.0 ≡ Less = below_back path_cmp x.0 done e es (each_T (below_all path_cmp x.0 (done ++ e ∷ es)) (fin.is_sorted path_cmp (done ++ e ∷ es)) (sorted_at (x ∷ done) (e ∷ es) whole)).0 in
      none_less x.0 (ap (path_cmp x.0) (sym root) ∙ less)
    where
      none_less : (p : Path) → path_cmp p [] ≡ Less → ⊥
      none_less [] h = cc
      none_less (n ∷ p) h = cc

-- ---- an image has no fault

some_line : (text rest : List ℕ) → [] ≡ line text ++ rest → ⊥
some_line [] rest e = cc
some_line (x ∷ text) rest e = cc

ended : (n : ℕ) (f : ImageFault) → HasFault n After [] f → ⊥
ended n f (cut_off none unended) = cc
ended n f (misspelt {text = text} {rest = rest} cut none) = some_line text rest cut.bytes_are
ended n f (misplaced {text = text} {rest = rest} what cut spells is) = some_line text rest cut.bytes_are
ended n f (later {text = text} {rest = rest} what cut spells is more) = some_line text rest cut.bytes_are

abbrev end_lines : List ℕ
end_lines = line end_text ++ []

abbrev Sound : Stage → List ℕ → Type 0
Sound stage bytes = (n : ℕ) (f : ImageFault) → HasFault n stage bytes f → ⊥

end_sound : (version : Version) → (entries : List (Path × Object)) → Sound (InNodes version entries) end_lines
end_sound version entries n f h = ended (suc n) f (step_on n (InNodes version entries) After end_lines end_text [] End f (first_cut end_text [] refl) refl refl h)

nodes_sound : (version : Version) → (files : Files) (is : IsTree files) (x : Path × Object) (done es : List (Path × Object)) → fin.entries files ≡ (x ∷ done) ++ es → AllByRecursion (IsEntry version) es → Sound (InNodes version (x ∷ done)) (flat_map line (map (node_text version) es) ++ end_lines)
nodes_sound version files is x done [] whole are n f h = end_sound version (x ∷ done) n f h
nodes_sound version files is x done (e ∷ es) whole are n f h =
    let tail = flat_map line (map (node_text version) es) ++ end_lines in
    let glued : flat_map line (map (node_text version) (e ∷ es)) ++ end_lines ≡ line (node_text version e) ++ tail = append_assoc (line (node_text version e)) (flat_map line (map (node_text version) es)) end_lines in
    let last : follows path_cmp (x ∷ done) e.0 ≡ true = follows_sorted path_cmp (x ∷ done) e es (sorted_at files is (x ∷ done) (e ∷ es) whole) in
    let up : has_parent (x ∷ done) e.0 ≡ true = parent_before files is (x ∷ done) e es whole (not_root files is x done e es whole) in
    let says : judged n (InNodes version (x ∷ done)) (Node version e) ≡ Some (Ok (InNodes version ((x ∷ done) ++ e ∷ []))) = rw (same_version-self version, last, up) refl in
    nodes_sound version files is x (done ++ e ∷ []) es (whole ∙ sym (append_assoc (x ∷ done) (e ∷ []) es)) are.1 (suc n) f
    (step_on n (InNodes version (x ∷ done)) (InNodes version ((x ∷ done) ++ e ∷ [])) (line (node_text version e) ++ tail) (node_text version e) tail (Node version e) f (first_cut (node_text version e) tail (node_whole version e are.0)) (are.0, refl) says
    (subst (λ (t : List ℕ). HasFault n (InNodes version (x ∷ done)) t f) glued h))

tree_sound : (version : Version) → (files : Files) (is : IsTree files) (facts : List (ℕ × List ℕ)) → AllByRecursion (IsEntry version) (fin.entries files) → Sound (InFacts version facts) (flat_map line (map (node_text version) (fin.entries files)) ++ end_lines)
tree_sound version files is facts are = by_first (root_first files is (fin.entries files) refl)
  where
    by_first : (e : Path × Object) × (rest : List (Path × Object)) × (fin.entries files ≡ e ∷ rest) × (is_root e ≡ true) → Sound (InFacts version facts) (flat_map line (map (node_text version) (fin.entries files)) ++ end_lines)
    by_first (e, rest, whole, root) n f h =
        let tail = flat_map line (map (node_text version) rest) ++ end_lines in
        let mine : AllByRecursion (IsEntry version) (e ∷ rest) = subst (AllByRecursion (IsEntry version)) whole are in
        let glued : flat_map line (map (node_text version) (e ∷ rest)) ++ end_lines ≡ line (node_text version e) ++ tail = append_assoc (line (node_text version e)) (flat_map line (map (node_text version) rest)) end_lines in
        let says : judged n (InFacts version facts) (Node version e) ≡ Some (Ok (InNodes version (e ∷ []))) = rw (same_version-self version, root) refl in
        let here : HasFault n (InFacts version facts) (line (node_text version e) ++ tail) f = subst (λ (t : List ℕ). HasFault n (InFacts version facts) t f) (ap (λ (es : List (Path × Object)). flat_map line (map (node_text version) es) ++ end_lines) whole ∙ glued) h in
        nodes_sound version files is e [] rest whole mine.1 (suc n) f
        (step_on n (InFacts version facts) (InNodes version (e ∷ [])) (line (node_text version e) ++ tail) (node_text version e) tail (Node version e) f (first_cut (node_text version e) tail (node_whole version e mine.0)) (mine.0, refl) says here)

facts_sound : (version : Version) → (facts : Values) (tail : List ℕ) → Sound (InFacts version (fin.entries facts)) tail → (done es : List (ℕ × List ℕ)) → fin.entries facts ≡ done ++ es → list_all is_byte_fact es ≡ true → Sound (InFacts version done) (flat_map line (map fact_text es) ++ tail)
facts_sound version facts tail sound done [] whole fit n f h = sound n f (subst (λ (es : List (ℕ × List ℕ)). HasFault n (InFacts version es) tail f) (sym (whole ∙ append-nil done)) h)
facts_sound version facts tail sound done (x ∷ es) whole fit n f h =
    let parts = and_parts (is_byte_fact x) (list_all is_byte_fact es) fit in
    let after = flat_map line (map fact_text es) ++ tail in
    let glued : flat_map line (map fact_text (x ∷ es)) ++ tail ≡ line (fact_text x) ++ after = append_assoc (line (fact_text x)) (flat_map line (map fact_text es)) tail in
    let in_order : T (fin.is_sorted nat_cmp (done ++ x ∷ es)) = subst (λ (xs : List (ℕ × List ℕ)). T (fin.is_sorted nat_cmp xs)) whole (fin.entries_sorted facts) in
    let last : follows nat_cmp done x.0 ≡ true = follows_sorted nat_cmp done x es in_order in
    let says : judged n (InFacts version done) (Fact x) ≡ Some (Ok (InFacts version (done ++ x ∷ []))) = rw last refl in
    facts_sound version facts tail sound (done ++ x ∷ []) es (whole ∙ sym (append_assoc done (x ∷ []) es)) parts.1 (suc n) f
    (step_on n (InFacts version done) (InFacts version (done ++ x ∷ [])) (line (fact_text x) ++ after) (fact_text x) after (Fact x) f (first_cut (fact_text x) after (fact_whole x parts.0)) (parts.0, refl) says
    (subst (λ (t : List ℕ). HasFault n (InFacts version done) t f) glued h))

header_whole : (version : Version) → is_line (header_text version) ≡ true
header_whole One = refl
header_whole Two = refl

header_sound : (version : Version) → (tail : List ℕ) → Sound (InFacts version []) tail → Sound Before (line (header_text version) ++ tail)
header_sound version tail sound n f h = sound (suc n) f (step_on n Before (InFacts version []) (line (header_text version) ++ tail) (header_text version) tail (Header version) f (first_cut (header_text version) tail (header_whole version)) refl refl h)

notes_sound : (tail : List ℕ) → Sound Before tail → (notes : List (List ℕ)) → list_all (λ note. is_note note && is_line note) notes ≡ true → Sound Before (flat_map line notes ++ tail)
notes_sound tail sound [] fit n f h = sound n f h
notes_sound tail sound (note ∷ notes) fit n f h =
    let parts = and_parts (is_note note && is_line note) (list_all (λ x. is_note x && is_line x) notes) fit in
    let own = and_parts (is_note note) (is_line note) parts.0 in
    let after = flat_map line notes ++ tail in
    let glued : flat_map line (note ∷ notes) ++ tail ≡ line note ++ after = append_assoc (line note) (flat_map line notes) tail in
    notes_sound tail sound notes parts.1 (suc n) f
    (step_on n Before Before (line note ++ after) note after Note f (first_cut note after own.1) own.0 refl (subst (λ (t : List ℕ). HasFault n Before t f) glued h))

text_parts : (version : Version) (facts : Values) (files : Files) → text_in version facts files ≡ line (header_text version) ++ (flat_map line (map fact_text (fin.entries facts)) ++ (flat_map line (map (node_text version) (fin.entries files)) ++ end_lines))
text_parts version facts files =
    ap (λ (t : List ℕ). line (header_text version) ++ t) (flat_map-append line (map fact_text (fin.entries facts) ++ map (node_text version) (fin.entries files)) (end_text ∷ [])
    ∙ ap (λ (t : List ℕ). t ++ end_lines) (flat_map-append line (map fact_text (fin.entries facts)) (map (node_text version) (fin.entries files)))
    ∙ append_assoc (flat_map line (map fact_text (fin.entries facts))) (flat_map line (map (node_text version) (fin.entries files))) end_lines)

tree_entries : (version : Version) (facts : Values) (files : Files) → HaveText version facts files → AllByRecursion (IsEntry version) (fin.entries files)
tree_entries version facts files fit = entries_are files fit.tree version fit.shown [] (fin.entries files) refl

pub image_sound : (bytes : List ℕ) (facts : Values) (files : Files) (f : ImageFault) → IsImage bytes facts files → HasImageFault bytes f → ⊥
image_sound bytes facts files f image h =
    let fit = image.fit in
    let version = image.version in
    let nodes = flat_map line (map (node_text version) (fin.entries files)) ++ end_lines in
    let facts_lines = flat_map line (map fact_text (fin.entries facts)) in
    notes_sound (line (header_text version) ++ (facts_lines ++ nodes))
    (header_sound version (facts_lines ++ nodes)
    (facts_sound version facts nodes (tree_sound version files fit.tree (fin.entries facts) (tree_entries version facts files fit)) [] (fin.entries facts) refl fit.facts_fit))
    image.notes image.are_notes 1 f
    (subst (λ (t : List ℕ). HasFault 1 Before t f) (image.text ∙ ap (λ (t : List ℕ). flat_map line image.notes ++ t) (text_parts version facts files)) h)

-- ---- bytes have one fault

pub one_fault : (n : ℕ) (stage : Stage) (bytes : List ℕ) (f g : ImageFault) → HasFault n stage bytes f → HasFault n stage bytes g → f ≡ g
one_fault n stage bytes f g (cut_off none unended) (cut_off again also) = refl
one_fault n stage bytes f g (cut_off none unended) (misspelt {text = text} {rest = rest} cut no_what) = absurd (no_feed_in text rest (subst (λ (t : List ℕ). is_line t ≡ true) cut.bytes_are none))
one_fault n stage bytes f g (cut_off none unended) (misplaced {text = text} {rest = rest} what cut spells is) = absurd (no_feed_in text rest (subst (λ (t : List ℕ). is_line t ≡ true) cut.bytes_are none))
one_fault n stage bytes f g (cut_off none unended) (later {text = text} {rest = rest} what cut spells is more) = absurd (no_feed_in text rest (subst (λ (t : List ℕ). is_line t ≡ true) cut.bytes_are none))
one_fault n stage bytes f g (misspelt {text = text} {rest = rest} cut no_what) (cut_off none unended) = absurd (no_feed_in text rest (subst (λ (t : List ℕ). is_line t ≡ true) cut.bytes_are none))
one_fault n stage bytes f g (misspelt cut no_what) (misspelt again none) = refl
one_fault n stage bytes f g (misspelt {text = text} {rest = rest} cut no_what) (misplaced {text = other} {rest = after} what again spells is) =
    let same = one_cut bytes text other rest after cut again in
    absurd (let nothing : judged n stage what ≡ None = no_what what (subst (λ (t : List ℕ). Spells t what) (sym same.0) spells) in let bad : None ≡ Some (Err g) = sym nothing ∙ is in cc)
one_fault n stage bytes f g (misspelt {text = text} {rest = rest} cut no_what) (later {next = next} {text = other} {rest = after} what again spells is more) =
    let same = one_cut bytes text other rest after cut again in
    absurd (let nothing : judged n stage what ≡ None = no_what what (subst (λ (t : List ℕ). Spells t what) (sym same.0) spells) in let bad : None ≡ Some (Ok next) = sym nothing ∙ is in cc)
one_fault n stage bytes f g (misplaced {text = text} {rest = rest} what cut spells is) (cut_off none unended) = absurd (no_feed_in text rest (subst (λ (t : List ℕ). is_line t ≡ true) cut.bytes_are none))
one_fault n stage bytes f g (misplaced {text = text} {rest = rest} what cut spells is) (misspelt {text = other} {rest = after} again none) =
    let same = one_cut bytes text other rest after cut again in
    absurd (let nothing : judged n stage what ≡ None = none what (subst (λ (t : List ℕ). Spells t what) same.0 spells) in let bad : None ≡ Some (Err f) = sym nothing ∙ is in cc)
one_fault n stage bytes f g (misplaced {text = text} {rest = rest} what cut spells is) (misplaced {text = other} {rest = after} new_messages again says wrong) =
    let same = one_cut bytes text other rest after cut again in
    let one : new_messages ≡ what = spells_once other new_messages what says (subst (λ (t : List ℕ). Spells t what) same.0 spells) in
    let both : Some (Err f) ≡ Some (Err g) = sym is ∙ ap (judged n stage) (sym one) ∙ wrong in
    cc
one_fault n stage bytes f g (misplaced {text = text} {rest = rest} what cut spells is) (later {next = next} {text = other} {rest = after} new_messages again says right more) =
    let same = one_cut bytes text other rest after cut again in
    let one : new_messages ≡ what = spells_once other new_messages what says (subst (λ (t : List ℕ). Spells t what) same.0 spells) in
    absurd (let bad : Some (Err f) ≡ Some (Ok next) = sym is ∙ ap (judged n stage) (sym one) ∙ right in cc)
one_fault n stage bytes f g (later {next = next} {text = text} {rest = rest} what cut spells is more) h =
    one_fault (suc n) next rest f g more (step_on n stage next bytes text rest what g cut spells is h)

-- ---- bytes are one image

lines_once : (xs ys : List (List ℕ)) → list_all is_line xs ≡ true → list_all is_line ys ≡ true → flat_map line xs ≡ flat_map line ys → xs ≡ ys
lines_once [] [] f g e = refl
lines_once [] (y ∷ ys) f g e = absurd (some_line y (flat_map line ys) e)
lines_once (x ∷ xs) [] f g e = absurd (some_line x (flat_map line xs) (sym e))
lines_once (x ∷ xs) (y ∷ ys) f g e =
    let pf = and_parts (is_line x) (list_all is_line xs) f in
    let pg = and_parts (is_line y) (list_all is_line ys) g in
    let both = one_cut (line x ++ flat_map line xs) x y (flat_map line xs) (flat_map line ys) (first_cut x (flat_map line xs) pf.0) (record { bytes_are = e; whole = pg.0 }) in
    let same : x ≡ y = both.0 in
    let below : xs ≡ ys = lines_once xs ys pf.1 pg.1 both.1 in
    cc

-- what each line of an image says
abbrev AllSpell : List (List ℕ) → List What → Type 0
AllSpell [] [] = Unit {0}
AllSpell [] (w ∷ ws) = ⊥
AllSpell (t ∷ ts) [] = ⊥
AllSpell (t ∷ ts) (w ∷ ws) = Spells t w × AllSpell ts ws

whats_once : (ts : List (List ℕ)) (ws vs : List What) → AllSpell ts ws → AllSpell ts vs → ws ≡ vs
whats_once [] [] [] f g = refl
whats_once [] [] (v ∷ vs) f g = absurd g
whats_once [] (w ∷ ws) vs f g = absurd f
whats_once (t ∷ ts) [] vs f g = absurd f
whats_once (t ∷ ts) (w ∷ ws) [] f g = absurd g
whats_once (t ∷ ts) (w ∷ ws) (v ∷ vs) f g =
    let same : w ≡ v = spells_once t w v f.0 g.0 in
    let below : ws ≡ vs = whats_once ts ws vs f.1 g.1 in
    cc

spell_append : (ts us : List (List ℕ)) (ws vs : List What) → AllSpell ts ws → AllSpell us vs → AllSpell (ts ++ us) (ws ++ vs)
spell_append [] us [] vs f g = g
spell_append [] us (w ∷ ws) vs f g = absurd f
spell_append (t ∷ ts) us [] vs f g = absurd f
spell_append (t ∷ ts) us (w ∷ ws) vs f g = (f.0, spell_append ts us ws vs f.1 g)

-- the facts, and the nodes, among what lines say
abbrev fact_in : What → Option (ℕ × List ℕ)
fact_in Note = None
fact_in (Header version) = None
fact_in (Fact fact) = Some fact
fact_in (Node version e) = None
fact_in End = None

abbrev node_in : What → Option (Path × Object)
node_in Note = None
node_in (Header version) = None
node_in (Fact fact) = None
node_in (Node version e) = Some e
node_in End = None

cons_append : {B : Type 0} (o : Option B) (xs ys zs : List B) → zs ≡ xs ++ ys → cons_option o zs ≡ cons_option o xs ++ ys
cons_append None xs ys zs e = e
cons_append (Some b) xs ys zs e = ap (λ bs. b ∷ bs) e

found_append : {A B : Type 0} (f : A → Option B) (xs ys : List A) → filter_map f (xs ++ ys) ≡ filter_map f xs ++ filter_map f ys
found_append f [] ys = refl
found_append f (x ∷ xs) ys = cons_append (f x) (filter_map f xs) (filter_map f ys) (filter_map f (xs ++ ys)) (found_append f xs ys)

-- the lines of an image, and what they say
abbrev texts_of : Version → List (List ℕ) → List (ℕ × List ℕ) → List (Path × Object) → List (List ℕ)
texts_of version notes facts nodes = notes ++ (header_text version ∷ (map fact_text facts ++ (map (node_text version) nodes ++ end_text ∷ [])))

abbrev whats_of : Version → List (List ℕ) → List (ℕ × List ℕ) → List (Path × Object) → List What
whats_of version notes facts nodes = map (λ note. Note) notes ++ (Header version ∷ (map (λ fact. Fact fact) facts ++ (map (λ e. Node version e) nodes ++ End ∷ [])))

notes_spell : (notes : List (List ℕ)) → list_all (λ note. is_note note && is_line note) notes ≡ true → AllSpell notes (map (λ note. Note) notes) × (list_all is_line notes ≡ true)
notes_spell [] e = (tt, refl)
notes_spell (note ∷ notes) e =
    let parts = and_parts (is_note note && is_line note) (list_all (λ x. is_note x && is_line x) notes) e in
    let own = and_parts (is_note note) (is_line note) parts.0 in
    let below = notes_spell notes parts.1 in
    ((own.0, below.0), and_from (is_line note) (list_all is_line notes) own.1 below.1)

facts_spell : (facts : List (ℕ × List ℕ)) → list_all is_byte_fact facts ≡ true → AllSpell (map fact_text facts) (map (λ fact. Fact fact) facts) × (list_all is_line (map fact_text facts) ≡ true)
facts_spell [] e = (tt, refl)
facts_spell (fact ∷ facts) e =
    let parts = and_parts (is_byte_fact fact) (list_all is_byte_fact facts) e in
    let below = facts_spell facts parts.1 in
    (((parts.0, refl), below.0), and_from (is_line (fact_text fact)) (list_all is_line (map fact_text facts)) (fact_whole fact parts.0) below.1)

nodes_spell : (version : Version) (nodes : List (Path × Object)) → AllByRecursion (IsEntry version) nodes → AllSpell (map (node_text version) nodes) (map (λ e. Node version e) nodes) × (list_all is_line (map (node_text version) nodes) ≡ true)
nodes_spell version [] are = (tt, refl)
nodes_spell version (e ∷ nodes) are =
    let below = nodes_spell version nodes are.1 in
    (((are.0, refl), below.0), and_from (is_line (node_text version e)) (list_all is_line (map (node_text version) nodes)) (node_whole version e are.0) below.1)

module _ (version : Version) (notes : List (List ℕ)) (facts : List (ℕ × List ℕ)) (nodes : List (Path × Object)) where
  texts_spell : list_all (λ note. is_note note && is_line note) notes ≡ true → list_all is_byte_fact facts ≡ true → AllByRecursion (IsEntry version) nodes → AllSpell (texts_of version notes facts nodes) (whats_of version notes facts nodes) × (list_all is_line (texts_of version notes facts nodes) ≡ true)
  texts_spell f g h =
      let a = notes_spell notes f in
      let b = facts_spell facts g in
      let c = nodes_spell version nodes h in
      let last = map (node_text version) nodes ++ end_text ∷ [] in
      let says = map (λ e. Node version e) nodes ++ End ∷ [] in
      let tail : AllSpell last says = spell_append (map (node_text version) nodes) (end_text ∷ []) (map (λ e. Node version e) nodes) (End ∷ []) c.0 (refl, tt) in
      let tail_lines : list_all is_line last ≡ true = all_append is_line (map (node_text version) nodes) (end_text ∷ []) c.1 refl in
      let more : AllSpell (map fact_text facts ++ last) (map (λ fact. Fact fact) facts ++ says) = spell_append (map fact_text facts) last (map (λ fact. Fact fact) facts) says b.0 tail in
      let more_lines : list_all is_line (map fact_text facts ++ last) ≡ true = all_append is_line (map fact_text facts) last b.1 tail_lines in (
        spell_append notes (header_text version ∷ (map fact_text facts ++ last)) (map (λ note. Note) notes) (Header version ∷ (map (λ fact. Fact fact) facts ++ says)) a.0 (refl, more),
        all_append is_line notes (header_text version ∷ (map fact_text facts ++ last)) a.1 (and_from (is_line (header_text version)) (list_all is_line (map fact_text facts ++ last)) (header_whole version) more_lines),
      )

  all_facts : filter_map fact_in (whats_of version notes facts nodes) ≡ facts
  all_facts =
      let says = map (λ e. Node version e) nodes ++ End ∷ [] in
      let rest = Header version ∷ (map (λ fact. Fact fact) facts ++ says) in
      found_append fact_in (map (λ note. Note) notes) rest ∙ ap (λ (xs : List (ℕ × List ℕ)). xs ++ filter_map fact_in rest) (none notes)
      ∙ found_append fact_in (map (λ fact. Fact fact) facts) says ∙ ap (λ (xs : List (ℕ × List ℕ)). xs ++ filter_map fact_in says) (own facts)
      ∙ ap (λ (xs : List (ℕ × List ℕ)). facts ++ xs) (found_append fact_in (map (λ e. Node version e) nodes) (End ∷ []) ∙ ap (λ (xs : List (ℕ × List ℕ)). xs ++ []) (others nodes)) ∙ append-nil facts
    where
      none : (xs : List (List ℕ)) → filter_map fact_in (map (λ note. Note) xs) ≡ []
      none [] = refl
      none (x ∷ xs) = none xs

      own : (xs : List (ℕ × List ℕ)) → filter_map fact_in (map (λ fact. Fact fact) xs) ≡ xs
      own [] = refl
      own (x ∷ xs) = ap (λ (ys : List (ℕ × List ℕ)). x ∷ ys) (own xs)

      others : (xs : List (Path × Object)) → filter_map fact_in (map (λ e. Node version e) xs) ≡ []
      others [] = refl
      others (x ∷ xs) = others xs

  all_nodes : filter_map node_in (whats_of version notes facts nodes) ≡ nodes
  all_nodes =
      let says = map (λ e. Node version e) nodes ++ End ∷ [] in
      let rest = Header version ∷ (map (λ fact. Fact fact) facts ++ says) in
      found_append node_in (map (λ note. Note) notes) rest ∙ ap (λ (xs : List (Path × Object)). xs ++ filter_map node_in rest) (none notes)
      ∙ found_append node_in (map (λ fact. Fact fact) facts) says ∙ ap (λ (xs : List (Path × Object)). xs ++ filter_map node_in says) (others facts)
      ∙ found_append node_in (map (λ e. Node version e) nodes) (End ∷ []) ∙ ap (λ (xs : List (Path × Object)). xs ++ []) (own nodes) ∙ append-nil nodes
    where
      none : (xs : List (List ℕ)) → filter_map node_in (map (λ note. Note) xs) ≡ []
      none [] = refl
      none (x ∷ xs) = none xs

      own : (xs : List (Path × Object)) → filter_map node_in (map (λ e. Node version e) xs) ≡ xs
      own [] = refl
      own (x ∷ xs) = ap (λ (ys : List (Path × Object)). x ∷ ys) (own xs)

      others : (xs : List (ℕ × List ℕ)) → filter_map node_in (map (λ fact. Fact fact) xs) ≡ []
      others [] = refl
      others (x ∷ xs) = others xs

  -- the bytes are these lines
  lines_of_parts : flat_map line (texts_of version notes facts nodes) ≡ flat_map line notes ++ (line (header_text version) ++ (flat_map line (map fact_text facts) ++ (flat_map line (map (node_text version) nodes) ++ end_lines)))
  lines_of_parts =
      let last = map (node_text version) nodes ++ end_text ∷ [] in
      flat_map-append line notes (header_text version ∷ (map fact_text facts ++ last))
      ∙ ap (λ (t : List ℕ). flat_map line notes ++ (line (header_text version) ++ t)) (flat_map-append line (map fact_text facts) last
      ∙ ap (λ (t : List ℕ). flat_map line (map fact_text facts) ++ t) (flat_map-append line (map (node_text version) nodes) (end_text ∷ [])))

image_lines : (bytes : List ℕ) (facts : Values) (files : Files) (image : IsImage bytes facts files) → bytes ≡ flat_map line (texts_of image.version image.notes (fin.entries facts) (fin.entries files))
image_lines bytes facts files image =
    image.text ∙ ap (λ (t : List ℕ). flat_map line image.notes ++ t) (text_parts image.version facts files) ∙ sym (lines_of_parts image.version image.notes (fin.entries facts) (fin.entries files))

pub one_image : (bytes : List ℕ) (f g : Values) (t u : Files) → IsImage bytes f t → IsImage bytes g u → (f ≡ g) × (t ≡ u)
one_image bytes f g t u a b =
    let own = texts_of a.version a.notes (fin.entries f) (fin.entries t) in
    let other = texts_of b.version b.notes (fin.entries g) (fin.entries u) in
    let new_messages = whats_of a.version a.notes (fin.entries f) (fin.entries t) in
    let says = whats_of b.version b.notes (fin.entries g) (fin.entries u) in
    let x = texts_spell a.version a.notes (fin.entries f) (fin.entries t) a.are_notes a.fit.facts_fit (tree_entries a.version f t a.fit) in
    let y = texts_spell b.version b.notes (fin.entries g) (fin.entries u) b.are_notes b.fit.facts_fit (tree_entries b.version g u b.fit) in
    let texts : own ≡ other = lines_once own other x.1 y.1 (sym (image_lines bytes f t a) ∙ image_lines bytes g u b) in
    let whats : new_messages ≡ says = whats_once other new_messages says (subst (λ (ts : List (List ℕ)). AllSpell ts new_messages) texts x.0) y.0 in
    let facts : fin.entries f ≡ fin.entries g = sym (all_facts a.version a.notes (fin.entries f) (fin.entries t)) ∙ ap (filter_map fact_in) whats ∙ all_facts b.version b.notes (fin.entries g) (fin.entries u) in
    let nodes : fin.entries t ≡ fin.entries u = sym (all_nodes a.version a.notes (fin.entries f) (fin.entries t)) ∙ ap (filter_map node_in) whats ∙ all_nodes b.version b.notes (fin.entries g) (fin.entries u) in
    (fin.same_entries_map f g facts, fin.same_entries_map t u nodes)

-- ---- what was written is read again

pub image_in : (version : Version) (facts : Values) (files : Files) → HaveText version facts files → IsImage (text_in version facts files) facts files
image_in version facts files fit = record { version = version; notes = []; are_notes = refl; fit = fit; text = refl }

again_in : (version : Version) (facts : Values) (files : Files) → HaveText version facts files → (g : Values) (t : Files) → IsImage (text_in version facts files) g t → (g ≡ facts) × (t ≡ files)
again_in version facts files fit g t is = one_image (text_in version facts files) g facts t files is (image_in version facts files fit)

pub text_image : (facts : Values) (files : Files) → HaveText Two facts files → IsImage (text_of facts files) facts files
text_image = image_in Two

pub read_again : (facts : Values) (files : Files) → HaveText Two facts files → (g : Values) (t : Files) → IsImage (text_of facts files) g t → (g ≡ facts) × (t ≡ files)
read_again = again_in Two

pub old_text_image : (facts : Values) (files : Files) → HaveText One facts files → IsImage (old_text_of facts files) facts files
old_text_image = image_in One

pub old_read_again : (facts : Values) (files : Files) → HaveText One facts files → (g : Values) (t : Files) → IsImage (old_text_of facts files) g t → (g ≡ facts) × (t ≡ files)
old_read_again = again_in One

-- ---- answers

-- a fault that was answered is running out of memory, or the first one of the bytes
memory_or_first : (bytes : List ℕ) (f : ImageFault) → Fails 1 Before bytes f → (f ≡ fault.Memory) ⊎ HasImageFault bytes f
memory_or_first bytes fault.TooLong h = inr h
memory_or_first bytes (fault.BadHeader k) h = inr h
memory_or_first bytes (fault.BadLine k) h = inr h
memory_or_first bytes (fault.OutOfOrder k) h = inr h
memory_or_first bytes (fault.NoParent k) h = inr h
memory_or_first bytes (fault.Truncated k) h = inr h
memory_or_first bytes fault.Memory h = inl refl

-- an image is refused for running out of memory alone
pub refused_image : (bytes : List ℕ) (facts : Values) (files : Files) (f : ImageFault) → IsImage bytes facts files → Fails 1 Before bytes f → f ≡ fault.Memory
refused_image bytes facts files f image h = by (memory_or_first bytes f h)
  where
    by : (f ≡ fault.Memory) ⊎ HasImageFault bytes f → f ≡ fault.Memory
    by (inl is) = is
    by (inr first) = absurd (image_sound bytes facts files f image first)

-- bytes with a fault are answered with it, or for running out of memory
pub refused_fault : (bytes : List ℕ) (f g : ImageFault) → HasImageFault bytes f → Fails 1 Before bytes g → (g ≡ f) ⊎ (g ≡ fault.Memory)
refused_fault bytes f g h failed = by (memory_or_first bytes g failed)
  where
    by : (g ≡ fault.Memory) ⊎ HasImageFault bytes g → (g ≡ f) ⊎ (g ≡ fault.Memory)
    by (inl is) = inr is
    by (inr first) = inl (one_fault 1 Before bytes g f first h)

pub answered_fault : {A : Type 0} (bytes : List ℕ) (f : ImageFault) (r : Result A ImageFault) (facts : A → Values) (files : A → Files) → HasImageFault bytes f
    → IfOk r (λ a. IsImage bytes (facts a) (files a)) → IfErr r (Fails 1 Before bytes) → (r ≡ Err f) ⊎ (r ≡ Err fault.Memory)
answered_fault bytes f (Ok a) facts files h ok err = absurd (image_sound bytes (facts a) (files a) f ok h)
answered_fault {A = A} bytes f (Err g) facts files h ok err = by (refused_fault bytes f g h err)
  where
    by : (g ≡ f) ⊎ (g ≡ fault.Memory) → ◌≡◌ {A = Result A ImageFault} (Err g) (Err f) ⊎ ◌≡◌ {A = Result A ImageFault} (Err g) (Err fault.Memory)
    by (inl is) = inl (ap Err is)
    by (inr is) = inr (ap Err is)
