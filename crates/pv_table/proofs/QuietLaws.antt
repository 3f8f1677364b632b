-- Runs of lines from trees that are the same except for timestamps leave such trees, and refuse and say the same, whatever their
-- moments.
use Rattle.std.proofs.Common.{◌≡◌, ◌∙◌, sym, ap, subst, refl}
use Rattle.std.specs.Prelude.{ℕ, ◌-◌, ◌+◌, Bool, true, false, not, cond, ◌&&◌, ◌||◌, ◌==◌, nat_lt, List, [], ◌∷◌, ◌++◌, length, take, map, filter, fold, Option, Some, None, is_some, option_map, option_and_then, unwrap_or, T}
use Rattle.std.specs.FinMap as fin
use Rattle.std.specs.FinMap.Entries as entries
use Rattle.std.specs.List.{filter_map, range_with_len}
use Rattle.std.specs.Option.{option_map_or, option_or}
use Rattle.std.specs.Ordering.{eq_by_cmp, is_lt}
use Rattle.pv_walk.specs.declared.object_state.ObjectState.{ObjectState}
use Rattle.pv_walk.specs.declared.operation.Operation.{Operation}
use Rattle.pv_walk.specs.Edits.{all_taken, cut, taken}
use Rattle.pv_walk.specs.Nodes.{object_state_of, object_states_of}
use Rattle.pv_walk.specs.Operations.{done}
use Rattle.pv_lines.specs.declared.line.Line.{Line}
use Rattle.pv_path.specs.Names.{same_bytes}
use Rattle.pv_path.specs.Paths.{Path, is_prefix, path_cmp, path_exact, path_total, rest_under, same_path}
use Rattle.pv_steps.specs.declared.object.Object.{Object}
use Rattle.pv_steps.specs.declared.why.Why.{Why}
use Rattle.pv_steps.specs.declared.why.Why.TheVariants.{UnsafeOwner}
use Rattle.pv_steps.specs.Objects.{object_state, changed, modified}
use Rattle.pv_steps.specs.Refusal.{first_refused, is_unsafe, owner_at, refusal, why_unsafe, why_refused}
use Rattle.pv_steps.specs.Same.{object_states}
use Rattle.pv_steps.specs.Steps.{made, on_at, put_at, touched}
use Rattle.pv_steps.specs.Trees.{Files, Places, kind_of, places, tabulate, entries_at}
use Rattle.pv_steps.proofs.StepLaws.{find-entries_at, is_among}
use Rattle.pv_walk.specs.Copying.{object_of, standing, with_subtree, Subtree}
use Rattle.pv_walk.specs.Preparing.{parent_file, parents_of, prepared, with_parent}
use Rattle.pv_walk.specs.Staging.{new_object, staging_names}
use Rattle.pv_table.specs.declared.action.Action.{Action}
use Rattle.pv_table.specs.declared.action.Action.TheVariants.{Create, Copy, Adjust, Idle}
use Rattle.pv_table.specs.declared.action.Adjustment.{Adjustment}
use Rattle.pv_table.specs.Active.{in_create_order}
use Rattle.pv_table.specs.ActionTable.{action_of, id_for_new}
use Rattle.pv_text.specs.GivenMessages.{message_text_at}
use Rattle.pv_table.specs.Created.{RefusesNoLine, by_line, by_turn, created, created_messages}
use Rattle.pv_steps.specs.Doing.{Doing, after_each, one_is_refused, messages_for_each}
use Rattle.pv_table.specs.Effects.{adjusted, as_object_state, become, carried_out, is_adjusted, prepare, put_paths, restamped, same_object_state, adjust_at, turn_after, turned, turns}
use Rattle.pv_table.specs.Reaching.{names, path_in}
use Rattle.pv_table.specs.Saying.{found, refused_text, texts, turn_texts}
use Rattle.pv_table.specs.Turns.{Refused, Turn, View, copied, decide, has_something, named_refusal, owner_made, refused_at, source_refusal, view_of}
use Rattle.pv_steps.proofs.ObjectLaws.{is_some-same}

-- ---- places that differ in timestamps alone

abbrev pub Alike : Places → Places → Type 0
Alike t u = (q : Path) → object_states t q ≡ object_states u q

map_alike : (f g : Object → Object) → ((x y : Object) → object_state x ≡ object_state y → object_state (f x) ≡ object_state (g y)) → (o u : Option Object) → option_map object_state o ≡ option_map object_state u → option_map object_state (option_map f o) ≡ option_map object_state (option_map g u)
map_alike f g alike None None e = refl
map_alike f g alike None (Some y) e = cc
map_alike f g alike (Some x) None e = cc
map_alike f g alike (Some x) (Some y) e = let same : object_state x ≡ object_state y = cc in ap (λ (o : Object). Some o) (alike x y same)

on_at_alike : (path : Path) (f g : Object → Object) → ((x y : Object) → object_state x ≡ object_state y → object_state (f x) ≡ object_state (g y)) → (t u : Places) → Alike t u → Alike (on_at path f t) (on_at path g u)
on_at_alike path f g step t u alike q = by_test (same_path path q)
  where
    by_test : (b : Bool) → option_map object_state (cond b (option_map f (t q)) (t q)) ≡ option_map object_state (cond b (option_map g (u q)) (u q))
    by_test true = map_alike f g step (t q) (u q) (alike q)
    by_test false = alike q

touched_alike : (now later : ℕ) (path : Path) (t u : Places) → Alike t u → Alike (touched now path t) (touched later path u)
touched_alike now later path t u alike = on_at_alike _ (modified now) (modified later) (λ x y e. e) t u alike

put_at_alike : (path : Path) (o p : Option Object) → option_map object_state o ≡ option_map object_state p → (t u : Places) → Alike t u → Alike (put_at path o t) (put_at path p u)
put_at_alike path o p same t u alike q = by_test (same_path path q)
  where
    by_test : (b : Bool) → option_map object_state (cond b o (t q)) ≡ option_map object_state (cond b p (u q))
    by_test true = same
    by_test false = alike q

made_alike : (now later : ℕ) (path : Path) (x y : Object) → object_state x ≡ object_state y → (t u : Places) → Alike t u → Alike (made now path x t) (made later path y u)
made_alike now later path x y same t u alike =
    touched_alike now later path (put_at path (Some x) t) (put_at path (Some y) u) (put_at_alike path (Some x) (Some y) (ap (λ (o : Object). Some o) same) t u alike)

-- ---- preparing a path

with_parent_alike : (now later : ℕ) (t u : Places) (place : Path) → Alike t u → Alike (with_parent now t place) (with_parent later u place)
with_parent_alike now later t u place alike = by_test (is_some (t place)) (is_some (u place)) (is_some-same (t place) (u place) (alike place))
  where
    by_test : (b c : Bool) → b ≡ c → Alike (cond b t (made now place (new_object parent_file now) t)) (cond c u (made later place (new_object parent_file later) u))
    by_test true true e = alike
    by_test true false e = cc
    by_test false true e = cc
    by_test false false e = made_alike now later place (new_object parent_file now) (new_object parent_file later) refl t u alike

all_parents_alike : (now later : ℕ) (places : List Path) (t u : Places) → Alike t u → Alike (fold (with_parent now) t places) (fold (with_parent later) u places)
all_parents_alike now later [] t u alike = alike
all_parents_alike now later (place ∷ places) t u alike = all_parents_alike now later places (with_parent now t place) (with_parent later u place) (with_parent_alike now later t u place alike)

cut_alike : (path : Path) (t u : Places) → Alike t u → Alike (cut path t) (cut path u)
cut_alike path t u alike q = by_test (is_prefix path q)
  where
    by_test : (b : Bool) → option_map object_state (cond b None (t q)) ≡ option_map object_state (cond b None (u q))
    by_test true = refl
    by_test false = alike q

taken_alike : (now later : ℕ) (path : Path) (t u : Places) → Alike t u → Alike (taken now path t) (taken later path u)
taken_alike now later path t u alike = by_test (is_some (t path)) (is_some (u path)) (is_some-same (t path) (u path) (alike path))
  where
    by_test : (b c : Bool) → b ≡ c → Alike (cond b (touched now path (cut path t)) t) (cond c (touched later path (cut path u)) u)
    by_test true true e = touched_alike now later path (cut path t) (cut path u) (cut_alike path t u alike)
    by_test true false e = cc
    by_test false true e = cc
    by_test false false e = alike

all_taken_alike : (now later : ℕ) (paths : List Path) (t u : Places) → Alike t u → Alike (all_taken now paths t) (all_taken later paths u)
all_taken_alike now later [] t u alike = alike
all_taken_alike now later (path ∷ paths) t u alike = all_taken_alike now later paths (taken now path t) (taken later path u) (taken_alike now later path t u alike)

prepared_alike : (now later : ℕ) (path : Path) (t u : Places) → Alike t u → Alike (prepared now path t) (prepared later path u)
prepared_alike now later path t u alike =
    all_parents_alike now later (parents_of path) (all_taken now (staging_names path) t) (all_taken later (staging_names path) u) (all_taken_alike now later (staging_names path) t u alike)

-- ---- trees

-- what a tree is made of
tabulate_alike : (paths more : List Path) → paths ≡ more → (t u : Places) → Alike t u → Alike (places (tabulate paths t)) (places (tabulate more u))
tabulate_alike paths more same t u alike q =
    ap (option_map object_state) (at paths t)
    ∙ by_test (is_among q paths)
    ∙ ap (λ (ps : List Path). option_map object_state (cond (is_among q ps) (u q) None)) same
    ∙ sym (ap (option_map object_state) (at more u))
  where
    at : (ps : List Path) (v : Places) → places (tabulate ps v) q ≡ cond (is_among q ps) (v q) None
    at ps v = fin.get-from_entries path_total (entries_at ps v) q ∙ find-entries_at ps v q

    by_test : (b : Bool) → option_map object_state (cond b (t q) None) ≡ option_map object_state (cond b (u q) None)
    by_test true = alike q
    by_test false = refl

-- the same paths with a number each: what is present of a map
abbrev marks : List (Path × Object) → List (Path × ℕ)
marks es = map (λ (e : Path × Object). (e.0, 0)) es

below_marks : (path : Path) (es : List (Path × Object)) → entries.below_all path_cmp path (marks es) ≡ entries.below_all path_cmp path es
below_marks path [] = refl
below_marks path (e ∷ es) = ap (λ (b : Bool). is_lt (path_cmp path e.0) && b) (below_marks path es)

sorted_marks : (es : List (Path × Object)) → entries.is_sorted path_cmp (marks es) ≡ entries.is_sorted path_cmp es
sorted_marks [] = refl
sorted_marks (e ∷ es) =
    ap (λ (b : Bool). b && entries.is_sorted path_cmp (marks es)) (below_marks e.0 es)
    ∙ ap (λ (b : Bool). entries.below_all path_cmp e.0 es && b) (sorted_marks es)

find_marks : (q : Path) (es : List (Path × Object)) → entries.find path_cmp q (marks es) ≡ option_map {U = ℕ} (λ (o : Object). 0) (entries.find path_cmp q es)
find_marks q [] = refl
find_marks q (e ∷ es) = by_test (eq_by_cmp path_cmp q e.0) (find_marks q es)
  where
    by_test : (b : Bool) → entries.find path_cmp q (marks es) ≡ option_map {U = ℕ} (λ (o : Object). 0) (entries.find path_cmp q es)
        → cond b (Some 0) (entries.find path_cmp q (marks es)) ≡ option_map {U = ℕ} (λ (o : Object). 0) (cond b (Some e.1) (entries.find path_cmp q es))
    by_test true rest = refl
    by_test false rest = rest

keys_marks : (es : List (Path × Object)) → map (λ (e : Path × ℕ). e.0) (marks es) ≡ map (λ (e : Path × Object). e.0) es
keys_marks [] = refl
keys_marks (e ∷ es) = ap (λ (ps : List Path). e.0 ∷ ps) (keys_marks es)

abbrev marked : Files → fin.FinMap path_cmp ℕ
marked t = fin.from_sorted (marks (fin.entries t))

keys_marked : (t : Files) → fin.keys (marked t) ≡ fin.keys t
keys_marked t = ap (map (λ (e : Path × ℕ). e.0)) (fin.entries-from_sorted path_cmp (marks (fin.entries t)) (subst T (sym (sorted_marks (fin.entries t))) (fin.entries_sorted t))) ∙ keys_marks (fin.entries t)

get_marked : (t : Files) (q : Path) → fin.get (marked t) q ≡ option_map {U = ℕ} (λ (o : Object). 0) (places t q)
get_marked t q =
    fin.get-from_sorted path_cmp (marks (fin.entries t)) q (subst T (sym (sorted_marks (fin.entries t))) (fin.entries_sorted t))
    ∙ find_marks q (fin.entries t)
    ∙ ap (option_map {U = ℕ} (λ (o : Object). 0)) (sym (fin.get-entries t q))

-- trees in which the same paths are present list them alike
keys_alike : (t u : Files) → Alike (places t) (places u) → fin.keys t ≡ fin.keys u
keys_alike t u alike = sym (keys_marked t) ∙ ap fin.keys (fin.same_map path_total path_exact (marked t) (marked u) marks_alike) ∙ keys_marked u
  where
    by_values : (o p : Option Object) → option_map object_state o ≡ option_map object_state p → option_map {U = ℕ} (λ (x : Object). 0) o ≡ option_map {U = ℕ} (λ (x : Object). 0) p
    by_values None None e = refl
    by_values None (Some y) e = cc
    by_values (Some x) None e = cc
    by_values (Some x) (Some y) e = refl

    marks_alike : (q : Path) → fin.get (marked t) q ≡ fin.get (marked u) q
    marks_alike q = get_marked t q ∙ by_values (places t q) (places u q) (alike q) ∙ sym (get_marked u q)

object_state_again : (o : Option Object) → option_map object_state_of o ≡ option_map object_state_of (option_map object_state o)
object_state_again None = refl
object_state_again (Some x) = refl

view_alike : (t u : Files) → Alike (places t) (places u) → view_of t ≡ view_of u
view_alike t u alike =
    let keys = keys_alike t u alike in
    let at : (q : Path) → object_states_of (places t) q ≡ object_states_of (places u) q = λ q. object_state_again (places t q) ∙ ap (option_map object_state_of) (alike q) ∙ sym (object_state_again (places u q)) in
    λ j. record { paths = keys j; at = λ q. at q j }

prepare_alike : (now later : ℕ) (path : Path) (t u : Files) → Alike (places t) (places u) → Alike (places (prepare now path t)) (places (prepare later path u))
unfolding prepare
prepare_alike now later path t u alike =
    tabulate_alike (parents_of path ++ fin.keys t) (parents_of path ++ fin.keys u) (ap (λ (ps : List Path). parents_of path ++ ps) (keys_alike t u alike)) (prepared now path (places t)) (prepared later path (places u))
    (prepared_alike now later path (places t) (places u) alike)

-- ---- objects that are adjusted

restamped_alike : (now later : ℕ) (b : ObjectState) (x y : Object) → object_state x ≡ object_state y → object_state (restamped now b x) ≡ object_state (restamped later b y)
restamped_alike now later b x y same = by_test (same_object_state b (object_state_of x)) (same_object_state b (object_state_of y)) (ap (λ (o : Object). same_object_state b (object_state_of o)) same)
  where
    new_bytes : (c : Bool) (o : Object) (at : ℕ) → object_state (cond c (changed at (as_object_state b o)) (modified at (as_object_state b o))) ≡ object_state (as_object_state b o)
    new_bytes true o at = refl
    new_bytes false o at = refl

    by_test : (c d : Bool) → c ≡ d
        → object_state (cond c x (cond (same_bytes b.body.payload x.payload) (changed now (as_object_state b x)) (modified now (as_object_state b x))))
        ≡ object_state (cond d y (cond (same_bytes b.body.payload y.payload) (changed later (as_object_state b y)) (modified later (as_object_state b y))))
    by_test true true e = same
    by_test true false e = cc
    by_test false true e = cc
    by_test false false e = new_bytes (same_bytes b.body.payload x.payload) x now ∙ sym (new_bytes (same_bytes b.body.payload y.payload) y later)

-- what an operation leaves of an object
abbrev left_of : ℕ → Object → Option ObjectState → Object
left_of now o None = o
left_of now o (Some b) = restamped now b o

adjusted_alike : (now later : ℕ) (operation : Operation) (x y : Object) → object_state x ≡ object_state y → object_state (adjusted now x operation) ≡ object_state (adjusted later y operation)
adjusted_alike now later operation x y same = by_value (done operation (Some (object_state_of x))) (done operation (Some (object_state_of y))) (ap (λ (o : Object). done operation (Some (object_state_of o))) same)
  where
    by_value : (a b : Option ObjectState) → a ≡ b → object_state (left_of now x a) ≡ object_state (left_of later y b)
    by_value None None e = same
    by_value None (Some b) e = cc
    by_value (Some a) None e = cc
    by_value (Some a) (Some b) e = let one : a ≡ b = cc in restamped_alike now later a x y same ∙ ap (λ (c : ObjectState). object_state (restamped later c y)) one

become_alike : (now later : ℕ) (operations : List Operation) (x y : Object) → object_state x ≡ object_state y → object_state (become now operations x) ≡ object_state (become later operations y)
become_alike now later [] x y same = same
become_alike now later (operation ∷ operations) x y same = become_alike now later operations (adjusted now x operation) (adjusted later y operation) (adjusted_alike now later operation x y same)

-- ---- what is done at a path

put_alike : (now later : ℕ) (path : Path) (subtree : Subtree) (t u : Places) → Alike t u → Alike (with_subtree now path subtree t) (with_subtree later path subtree u)
put_alike now later path subtree t u alike =
    touched_alike now later path (λ q. standing now subtree (t q) (rest_under path q)) (λ q. standing later subtree (u q) (rest_under path q)) (λ q. by_rest q (rest_under path q))
  where
    new : (o : Option ObjectState) → option_map object_state (option_map (object_of now) o) ≡ option_map object_state (option_map (object_of later) o)
    new None = refl
    new (Some b) = refl

    by_rest : (q : Path) (o : Option Path) → option_map object_state (standing now subtree (t q) o) ≡ option_map object_state (standing later subtree (u q) o)
    by_rest q None = alike q
    by_rest q (Some rest) = new (subtree rest)

put_paths_alike : (action : Action) (path : Path) (t u : Files) → fin.keys t ≡ fin.keys u → put_paths action path t ≡ put_paths action path u
put_paths_alike (Create making) path t u same = refl
put_paths_alike (Copy copying) path t u same = ap (λ (ps : List Path). path ∷ map (λ rest. path ++ rest) (filter_map (rest_under copying.source) ps)) same
put_paths_alike (Adjust adjustment) path t u same = refl
put_paths_alike Idle path t u same = refl

turned_alike : (now later : ℕ) (action : Action) (path : Path) (turn : Turn) (t u : Files) → Alike (places t) (places u) → Alike (places (turned now action path turn t)) (places (turned later action path turn u))
turned_alike now later action path Turn.Nothing t u alike = alike
turned_alike now later action path (Turn.Left kind) t u alike = alike
turned_alike now later action path (Turn.Put subtree) t u alike =
    let keys = keys_alike t u alike in
    let paths : put_paths action path t ++ fin.keys t ≡ put_paths action path u ++ fin.keys u =
    ap (λ (ps : List Path). ps ++ fin.keys t) (put_paths_alike action path t u keys) ∙ ap (λ (ps : List Path). put_paths action path u ++ ps) keys
    in
    tabulate_alike (put_paths action path t ++ fin.keys t) (put_paths action path u ++ fin.keys u) paths (with_subtree now path subtree (places t)) (with_subtree later path subtree (places u)) (put_alike now later path subtree (places t) (places u) alike)
turned_alike now later action path (Turn.Become operations) t u alike =
    tabulate_alike (fin.keys t) (fin.keys u) (keys_alike t u alike) (on_at path (become now operations) (places t)) (on_at path (become later operations) (places u))
    (on_at_alike path (become now operations) (become later operations) (become_alike now later operations) (places t) (places u) alike)

adjust_alike : (now later : ℕ) (adjustment : Adjustment) (path : Path) (t u : Files) → Alike (places t) (places u) → Alike (places (adjust_at now adjustment path t)) (places (adjust_at later adjustment path u))
adjust_alike now later adjustment path t u alike =
    tabulate_alike (fin.keys t) (fin.keys u) (keys_alike t u alike)
    (λ q. cond (is_adjusted adjustment path q) (option_map (become now adjustment.sets) (places t q)) (places t q))
    (λ q. cond (is_adjusted adjustment path q) (option_map (become later adjustment.sets) (places u q)) (places u q)) (λ q. by_test q (is_adjusted adjustment path q))
  where
    by_test : (q : Path) (b : Bool) → option_map object_state (cond b (option_map (become now adjustment.sets) (places t q)) (places t q)) ≡ option_map object_state (cond b (option_map (become later adjustment.sets) (places u q)) (places u q))
    by_test q true = map_alike (become now adjustment.sets) (become later adjustment.sets) (become_alike now later adjustment.sets) (places t q) (places u q) (alike q)
    by_test q false = alike q

prepared_turn_alike : (now later : ℕ) (action : Action) (path : Path) (t u : Files) → Alike (places t) (places u)
    → Alike (places (turned now action path (decide action (view_of (prepare now path t)) path) (prepare now path t))) (places (turned later action path (decide action (view_of (prepare later path u)) path) (prepare later path u)))
prepared_turn_alike now later action path t u alike =
    let ready = prepare_alike now later path t u alike in
    let turn : decide action (view_of (prepare now path t)) path ≡ decide action (view_of (prepare later path u)) path = ap (λ (v : View). decide action v path) (view_alike (prepare now path t) (prepare later path u) ready) in
    subst (λ (d : Turn). Alike (places (turned now action path (decide action (view_of (prepare now path t)) path) (prepare now path t))) (places (turned later action path d (prepare later path u)))) turn
    (turned_alike now later action path (decide action (view_of (prepare now path t)) path) (prepare now path t) (prepare later path u) ready)

-- ---- refusals

pub kind_object_state : (o : Option Object) → kind_of o ≡ kind_of (option_map object_state o)
kind_object_state None = refl
kind_object_state (Some x) = refl

uid_object_state : (d : ℕ) (o : Option Object) → option_map_or (λ x. x.node.uid) o d ≡ option_map_or (λ x. x.node.uid) (option_map object_state o) d
uid_object_state d None = refl
uid_object_state d (Some x) = refl

owner_object_state : (o : Option Object) → option_map (λ (x : Object). x.node.uid) o ≡ option_map (λ (x : Object). x.node.uid) (option_map object_state o)
owner_object_state None = refl
owner_object_state (Some x) = refl

pub present_object_state : (o : Option Object) → is_some o ≡ is_some (option_map object_state o)
present_object_state None = refl
present_object_state (Some x) = refl

unsafe_object_state : (t : Places) (path : Path) (last k : ℕ) → is_unsafe t path last k ≡ is_unsafe (object_states t) path last k
unsafe_object_state t path last k =
    ap (λ (x : ℕ). nat_lt 0 k && not (x == 0) && not (owner_at t path last k == x)) (uid_object_state (cond (k - 1 == length path) last 0) (t (take (k - 1) path)))
    ∙ ap (λ (x : ℕ). nat_lt 0 k && not (owner_at (object_states t) path last (k - 1) == 0) && not (x == owner_at (object_states t) path last (k - 1))) (uid_object_state (cond (k == length path) last 0) (t (take k path)))

why_object_state : (t : Places) (path : Path) (last k : ℕ) → why_refused t path last k ≡ why_refused (object_states t) path last k
why_object_state t path last k =
    ap (λ o. option_or (cond (nat_lt k (length path)) (why_unsafe o) None) (cond (is_unsafe t path last k) (Some UnsafeOwner) None)) (kind_object_state (t (take k path)))
    ∙ ap (λ (b : Bool). option_or (cond (nat_lt k (length path)) (why_unsafe (kind_of (object_states t (take k path)))) None) (cond b (Some UnsafeOwner) None)) (unsafe_object_state t path last k)

refusal_object_state : (t : Places) (path : Path) (last : ℕ) → refusal t path last ≡ refusal (object_states t) path last
refusal_object_state t path last = ap (λ (f : ℕ → Option Why). first_refused f (range_with_len 0 (length path + 1))) (λ j k. why_object_state t path last k j)

source_object_state : (t : Places) (path : Path) → source_refusal t path ≡ source_refusal (object_states t) path
source_object_state t path =
    let unsafe_component : (k : ℕ) → why_unsafe (kind_of (t (take k path))) ≡ why_unsafe (kind_of (object_states t (take k path))) = λ k. ap why_unsafe (kind_object_state (t (take k path))) in
    ap (λ (f : ℕ → Option Why). first_refused f (range_with_len 0 (length path))) (λ j k. unsafe_component k j)

has_object_state : (t : Places) (action : Action) → has_something t action ≡ has_something (object_states t) action
has_object_state t action = by_path (copied action)
  where
    by_path : (o : Option Path) → option_map_or (λ path. is_some (t path)) o true ≡ option_map_or (λ path. is_some (object_states t path)) o true
    by_path None = refl
    by_path (Some path) = present_object_state (t path)

made_object_state : (line : Line) (t : Places) → owner_made line t ≡ owner_made line (object_states t)
made_object_state line t = ap (λ (o : Option ℕ). unwrap_or (option_or (id_for_new line.user) o) 0) (by_path (copied (action_of line)))
  where
    by_path : (o : Option Path) → option_map (λ (x : Object). x.node.uid) (option_and_then t o) ≡ option_map (λ (x : Object). x.node.uid) (option_and_then (object_states t) o)
    by_path None = refl
    by_path (Some path) = owner_object_state (t path)

named_object_state : (line : Line) (path : Path) (t : Places) → named_refusal line path t ≡ named_refusal line path (object_states t)
named_object_state line path t =
    ap (option_map (λ (place : ℕ × Why). Refused.named path place.0 place.1)) (refusal_object_state t path (owner_made line t) ∙ ap (refusal (object_states t) path) (made_object_state line t))

refused_object_state : (line : Line) (path : Path) (t : Places) → refused_at line path t ≡ refused_at line path (object_states t)
refused_object_state line path t =
    ap (λ (o : Option Refused). option_or o (cond (has_something t (action_of line)) (named_refusal line path t) None)) (by_source (copied (action_of line)))
    ∙ ap (λ (b : Bool). option_or (refused_source (object_states t)) (cond b (named_refusal line path t) None)) (has_object_state t (action_of line))
    ∙ ap (λ (o : Option Refused). option_or (refused_source (object_states t)) (cond (has_something (object_states t) (action_of line)) o None)) (named_object_state line path t)
  where
    refused_source : Places → Option Refused
    refused_source v = option_and_then (λ source. option_map (λ (place : ℕ × Why). Refused.source source place.0 place.1) (source_refusal v source)) (copied (action_of line))

    by_source : (o : Option Path)
        → option_and_then (λ source. option_map (λ (place : ℕ × Why). Refused.source source place.0 place.1) (source_refusal t source)) o
        ≡ option_and_then (λ source. option_map (λ (place : ℕ × Why). Refused.source source place.0 place.1) (source_refusal (object_states t) source)) o
    by_source None = refl
    by_source (Some source) = ap (option_map (λ (place : ℕ × Why). Refused.source source place.0 place.1)) (source_object_state t source)

refused_alike : (line : Line) (path : Path) (t u : Places) → Alike t u → refused_at line path t ≡ refused_at line path u
refused_alike line path t u alike =
    let same : object_states t ≡ object_states u = λ j q. alike q j in
    refused_object_state line path t ∙ ap (refused_at line path) same ∙ sym (refused_object_state line path u)

-- ---- a line

carried_out_alike : (now later : ℕ) (action : Action) (path : Path) (t u : Files) → Alike (places t) (places u) → Alike (places (carried_out now action path t)) (places (carried_out later action path u))
carried_out_alike now later (Create making) path t u alike = prepared_turn_alike now later (Create making) path t u alike
carried_out_alike now later (Copy copying) path t u alike =
    by_test (has_something (places t) (Copy copying)) (has_something (places u) (Copy copying))
    (has_object_state (places t) (Copy copying) ∙ ap (λ (v : Places). has_something v (Copy copying)) (λ j q. alike q j) ∙ sym (has_object_state (places u) (Copy copying)))
  where
    by_test : (b c : Bool) → b ≡ c
        → Alike (places (cond b (turned now (Copy copying) path (decide (Copy copying) (view_of (prepare now path t)) path) (prepare now path t)) t))
        (places (cond c (turned later (Copy copying) path (decide (Copy copying) (view_of (prepare later path u)) path) (prepare later path u)) u))
    by_test true true e = prepared_turn_alike now later (Copy copying) path t u alike
    by_test true false e = cc
    by_test false true e = cc
    by_test false false e = alike
carried_out_alike now later (Adjust adjustment) path t u alike = adjust_alike now later adjustment path t u alike
carried_out_alike now later Idle path t u alike = alike

-- the tree after a line at a path, by whether it is refused
abbrev after_refusal : ℕ → Line → Path → Files → Option Refused → Files
after_refusal now line path t (Some place) = t
after_refusal now line path t None = carried_out now (action_of line) path t

turn_alike : (now later : ℕ) (line : Line) (path : Path) (t u : Files) → Alike (places t) (places u) → Alike (places (turn_after now line path t)) (places (turn_after later line path u))
turn_alike now later line path t u alike = by_refusal (refused_at line path (places t)) (refused_at line path (places u)) (refused_alike line path (places t) (places u) alike)
  where
    by_refusal : (a b : Option Refused) → a ≡ b → Alike (places (after_refusal now line path t a)) (places (after_refusal later line path u b))
    by_refusal None None e = carried_out_alike now later (action_of line) path t u alike
    by_refusal None (Some b) e = cc
    by_refusal (Some a) None e = cc
    by_refusal (Some a) (Some b) e = alike

-- the paths at which a line is carried out, by what it asks for
abbrev paths_of : Line → Files → Action → List Path
paths_of line t (Create making) = path_in line.path ∷ []
paths_of line t (Copy copying) = path_in line.path ∷ []
paths_of line t (Adjust adjustment) = filter (names line) (fin.keys t)
paths_of line t Idle = []

turns_alike : (line : Line) (t u : Files) → fin.keys t ≡ fin.keys u → turns line t ≡ turns line u
turns_alike line t u same = by_action (action_of line)
  where
    by_action : (d : Action) → paths_of line t d ≡ paths_of line u d
    by_action (Create making) = refl
    by_action (Copy copying) = refl
    by_action (Adjust adjustment) = ap (filter (names line)) same
    by_action Idle = refl

-- ---- what is said

found_alike : (now later : ℕ) (action : Action) (path : Path) (t u : Files) → Alike (places t) (places u) → Alike (places (found now action path t)) (places (found later action path u))
found_alike now later (Create making) path t u alike = prepare_alike now later path t u alike
found_alike now later (Copy copying) path t u alike = prepare_alike now later path t u alike
found_alike now later (Adjust adjustment) path t u alike = alike
found_alike now later Idle path t u alike = alike

-- the texts of a line at a path, by whether it is refused
abbrev texts_by : ℕ → Line → Path → Files → Option Refused → List (List ℕ)
texts_by now line path t (Some place) = refused_text place ∷ []
texts_by now line path t None = turn_texts path (decide (action_of line) (view_of (found now (action_of line) path t)) path)

texts_alike : (now later : ℕ) (line : Line) (path : Path) (t u : Files) → Alike (places t) (places u) → texts now line path t ≡ texts later line path u
texts_alike now later line path t u alike = by_refusal (refused_at line path (places t)) (refused_at line path (places u)) (refused_alike line path (places t) (places u) alike)
  where
    by_refusal : (a b : Option Refused) → a ≡ b → texts_by now line path t a ≡ texts_by later line path u b
    by_refusal None None e =
        ap (λ (v : View). turn_texts path (decide (action_of line) v path)) (view_alike (found now (action_of line) path t) (found later (action_of line) path u) (found_alike now later (action_of line) path t u alike))
    by_refusal None (Some b) e = cc
    by_refusal (Some a) None e = cc
    by_refusal (Some a) (Some b) e = let one : a ≡ b = cc in ap (λ (place : Refused). refused_text place ∷ []) one

-- ---- one after the other

-- two ways of doing something that keep trees alike, and refuse and say the same
record IsTimeless {A : Type 0} (d e : Doing A) : Type 0 where
  pub after : (x : A) (t u : Files) → Alike (places t) (places u) → Alike (places (d.after x t)) (places (e.after x u))
  pub refuses : (x : A) (t u : Files) → Alike (places t) (places u) → d.is_refused x t ≡ e.is_refused x u
  pub says : (x : A) (t u : Files) → Alike (places t) (places u) → d.says x t ≡ e.says x u

module _ {A : Type 0} (d e : Doing A) (timeless : IsTimeless d e) where
  each_after : (xs : List A) (t u : Files) → Alike (places t) (places u) → Alike (places (after_each d xs t)) (places (after_each e xs u))
  each_after [] t u alike = alike
  each_after (x ∷ xs) t u alike = each_after xs (d.after x t) (e.after x u) (timeless.after x t u alike)

  each_refuses : (xs : List A) (t u : Files) → Alike (places t) (places u) → one_is_refused d xs t ≡ one_is_refused e xs u
  each_refuses [] t u alike = refl
  each_refuses (x ∷ xs) t u alike = λ i. timeless.refuses x t u alike i || each_refuses xs (d.after x t) (e.after x u) (timeless.after x t u alike) i

  each_says : (xs : List A) (t u : Files) → Alike (places t) (places u) → messages_for_each d xs t ≡ messages_for_each e xs u
  each_says [] t u alike = refl
  each_says (x ∷ xs) t u alike = λ i. timeless.says x t u alike i ++ each_says xs (d.after x t) (e.after x u) (timeless.after x t u alike) i

turn_timeless : (now later : ℕ) (line : Line) → IsTimeless (by_turn now line) (by_turn later line)
turn_timeless now later line = record {
  after = turn_alike now later line;
  refuses = λ path t u alike. ap is_some (refused_alike line path (places t) (places u) alike);
  says = λ path t u alike. ap (map (message_text_at line.place)) (texts_alike now later line path t u alike);
}

line_timeless : (now later : ℕ) → IsTimeless (by_line now) (by_line later)
line_timeless now later = record {
  after = λ line t u alike.
      subst (λ (paths : List Path). Alike (places (after_each (by_turn now line) (turns line t) t)) (places (after_each (by_turn later line) paths u))) (turns_alike line t u (keys_alike t u alike))
      (each_after (by_turn now line) (by_turn later line) (turn_timeless now later line) (turns line t) t u alike);
  refuses = λ line t u alike.
      each_refuses (by_turn now line) (by_turn later line) (turn_timeless now later line) (turns line t) t u alike
      ∙ ap (λ (paths : List Path). one_is_refused (by_turn later line) paths u) (turns_alike line t u (keys_alike t u alike));
  says = λ line t u alike.
      each_says (by_turn now line) (by_turn later line) (turn_timeless now later line) (turns line t) t u alike
      ∙ ap (λ (paths : List Path). messages_for_each (by_turn later line) paths u) (turns_alike line t u (keys_alike t u alike));
}

-- ---- all lines

pub created_alike : (lines : List Line) (now later : ℕ) (t u : Files) → Alike (places t) (places u) → Alike (places (created lines now t)) (places (created lines later u))
created_alike lines now later t u alike = each_after (by_line now) (by_line later) (line_timeless now later) (in_create_order lines) t u alike

pub messages_alike : (lines : List Line) (now later : ℕ) (t u : Files) → Alike (places t) (places u) → created_messages lines now t ≡ created_messages lines later u
messages_alike lines now later t u alike = each_says (by_line now) (by_line later) (line_timeless now later) (in_create_order lines) t u alike

pub quiet_alike : (lines : List Line) (now later : ℕ) (t u : Files) → Alike (places t) (places u) → RefusesNoLine lines now t → RefusesNoLine lines later u
quiet_alike lines now later t u alike quiet = sym (each_refuses (by_line now) (by_line later) (line_timeless now later) (in_create_order lines) t u alike) ∙ quiet

pub quiet_at_any_moment : (lines : List Line) (now later : ℕ) (t : Files) → RefusesNoLine lines now t → RefusesNoLine lines later t
quiet_at_any_moment lines now later t quiet = quiet_alike lines now later t t (λ q. refl) quiet
