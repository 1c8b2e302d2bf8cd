-- What one line more makes of a script.
use Rattle.std.proofs.Common.{◌≡◌, ℕ, Bool, true, false, ◌||◌, List, [], ◌∷◌, ◌++◌, map, length, ◌<◌, refl, ap, sym, ◌∙◌, Option, Some, None, All, append-nil, rules, arith}
use Rattle.std.specs.List.{slice_split, filter, flat_map, list_all, list_any}
use Rattle.std.proofs.lemmas.List.{map-append}
use Rattle.std.proofs.lemmas.List.Elements.{filter-append, All-append, All-nil, All-cons, All-head, All-tail}
use Rattle.std.proofs.lemmas.List.Folds.{list_all-append, list_any-append}
use Rattle.std.proofs.lemmas.Grind.{common_steps, flat_map-append}
use Rattle.gmp_script.proofs.Parts.{onto_last, onto_last-append, slice_split-push_yes, slice_split-push_no}
use Rattle.gmp_script.specs.Lines.{said_by, says_body, says_something, parts, opens_with_again, written, is_opening, capacities_in, readings_in, IsScript}
use Rattle.gmp_script.specs.Script.{Commands, begins_again}
use Rattle.gmp_script.specs.declared.commands.Command.{Command}
use Rattle.gmp_script.specs.declared.commands.Command.TheVariants as command
use Rattle.gmp_script.specs.declared.lines.Line.{Line}
use Rattle.gmp_script.specs.declared.lines.Line.TheVariants as line

-- what the lines say, with one line more
said-push : (before : List (List ℕ)) (l : List ℕ) → filter says_something (map said_by (before ++ l ∷ []))
    ≡ filter says_something (map said_by before) ++ filter says_something (said_by l ∷ [])
said-push before l = ap (filter says_something) (map-append said_by before (l ∷ [])) ∙ filter-append says_something (map said_by before) (said_by l ∷ [])

pub parts-nothing : (before : List (List ℕ)) (l : List ℕ) → said_by l ≡ Some line.Nothing → parts (before ++ l ∷ []) ≡ parts before
parts-nothing before l e =
    ap (slice_split says_body) (said-push before l ∙ ap (λ s. filter says_something (map said_by before) ++ filter says_something (s ∷ [])) e
    ∙ append-nil (filter says_something (map said_by before)))

pub parts-body : (before : List (List ℕ)) (l : List ℕ) → said_by l ≡ Some line.Body → parts (before ++ l ∷ []) ≡ parts before ++ [] ∷ []
parts-body before l e =
    ap (slice_split says_body) (said-push before l ∙ ap (λ s. filter says_something (map said_by before) ++ filter says_something (s ∷ [])) e)
    ∙ slice_split-push_yes says_body (filter says_something (map said_by before)) (Some line.Body) refl

-- what is neither a body nor nothing stands at the end of the last part
parts-more : (before : List (List ℕ)) (l : List ℕ) (s : Option Line) → said_by l ≡ s → filter says_something (s ∷ []) ≡ s ∷ [] → says_body s ≡ false
    → parts (before ++ l ∷ []) ≡ onto_last s (parts before)
parts-more before l s e kept other =
    ap (slice_split says_body) (said-push before l ∙ ap (λ s. filter says_something (map said_by before) ++ filter says_something (s ∷ [])) e
    ∙ ap (λ p. filter says_something (map said_by before) ++ p) kept)
    ∙ slice_split-push_no says_body (filter says_something (map said_by before)) s other

-- Lines of one kind

abbrev is_bad : Option Line → Bool
is_bad None = true
is_bad _ = false

abbrev is_of_opening : Option Line → Bool
is_of_opening (Some x) = is_opening x
is_of_opening None = false

abbrev is_command : Option Line → Bool
is_command (Some (line.Command c)) = true
is_command _ = false

none_among : {X : Type 0} (p : Option Line → Bool) (f : X → Option Line) → ((x : X) → p (f x) ≡ false) → (xs : List X) → list_any p (map f xs) ≡ false
none_among p f h [] = refl
none_among p f h (x ∷ xs) = rw (h x) (none_among p f h xs)

none_written : (p : Option Line → Bool) → ((c : Command) → p (Some (line.Command c)) ≡ false) → (bodies : List Commands) → list_any (list_any p) (map written bodies) ≡ false
none_written p h [] = refl
none_written p h (b ∷ bodies) = rw (none_among p (λ c. Some (line.Command c)) h b.commands) (none_written p h bodies)

none_opening : (p : Option Line → Bool) → ((n : ℕ) → p (Some (line.Channel n)) ≡ false) → ((ns : List ℕ) → p (Some (line.Clock ns)) ≡ false)
    → (xs : List Line) → list_all is_opening xs ≡ true → list_any p (map Some xs) ≡ false
none_opening p h k [] e = refl
none_opening p h k (line.Channel n ∷ xs) e = rw (h n) (none_opening p h k xs e)
none_opening p h k (line.Clock ns ∷ xs) e = rw (k ns) (none_opening p h k xs e)
none_opening p h k (line.Nothing ∷ xs) e = cc
none_opening p h k (line.Body ∷ xs) e = cc
none_opening p h k (line.Command c ∷ xs) e = cc

one_at_last : {X : Type 0} (p : X → Bool) (xs : List X) (x : X) → p x ≡ true → list_any p (xs ++ x ∷ []) ≡ true
one_at_last p xs x e = list_any-append p xs (x ∷ []) ∙ grind (arith, common_steps)

one_onto_last : (p : Option Line → Bool) (ps : List (List (Option Line))) (s : Option Line) → p s ≡ true → list_any (list_any p) (onto_last s ps) ≡ true
one_onto_last p [] s e = rw e refl
one_onto_last p (part ∷ []) s e = rw (one_at_last p part s e) refl
one_onto_last p (part ∷ next ∷ ps) s e = grind (arith, common_steps, one_onto_last p (next ∷ ps) s e)

opening_kept : (x : Line) → is_opening x ≡ true → filter says_something (Some x ∷ []) ≡ Some x ∷ []
opening_kept (line.Channel n) o = refl
opening_kept (line.Clock ns) o = refl
opening_kept line.Nothing o = cc
opening_kept line.Body o = refl
opening_kept (line.Command c) o = refl

opening_body : (x : Line) → is_opening x ≡ true → says_body (Some x) ≡ false
opening_body (line.Channel n) o = refl
opening_body (line.Clock ns) o = refl
opening_body line.Nothing o = refl
opening_body line.Body o = cc
opening_body (line.Command c) o = refl

-- the parts of a script, with one more line of an opening
parts-opening : (before : List (List ℕ)) (l : List ℕ) (x : Line) → said_by l ≡ Some x → is_opening x ≡ true → parts (before ++ l ∷ []) ≡ onto_last (Some x) (parts before)
parts-opening before l x e o = parts-more before l (Some x) e (opening_kept x o) (opening_body x o)

-- Lines that make no script

-- a line that says nothing that a script may say
pub no_script_with_bad : (before : List (List ℕ)) (l cs rs : List ℕ) (bodies : List Commands) → said_by l ≡ None → IsScript (before ++ l ∷ []) cs rs bodies → ⊥
no_script_with_bad before l cs rs bodies e s =
    let h : list_any (list_any is_bad) (parts (before ++ l ∷ [])) ≡ true = ap (list_any (list_any is_bad)) (parts-more before l None e refl refl) ∙ one_onto_last is_bad (parts before) None refl in
    let first : list_any is_bad (map Some s.opening) ≡ false = none_opening is_bad (λ n. refl) (λ ns. refl) s.opening s.opens in
    let others = none_written is_bad (λ c. refl) bodies in
    let n : list_any (list_any is_bad) (parts (before ++ l ∷ [])) ≡ false = ap (list_any (list_any is_bad)) s.made ∙ rw first others in
    cc

abbrev first_of : List (List (Option Line)) → List (Option Line)
first_of [] = []
first_of (part ∷ ps) = part

abbrev rest_of : List (List (Option Line)) → List (List (Option Line))
rest_of [] = []
rest_of (part ∷ ps) = ps

-- a command before the first body
pub no_script_with_first : (before : List (List ℕ)) (l : List ℕ) (c : Command) (cs rs cs' rs' : List ℕ) (bodies : List Commands) → said_by l ≡ Some (line.Command c)
    → IsScript before cs rs [] → IsScript (before ++ l ∷ []) cs' rs' bodies → ⊥
no_script_with_first before l c cs rs cs' rs' bodies e old s =
    let x : Option Line = Some (line.Command c) in
    let is : parts (before ++ l ∷ []) ≡ (map Some old.opening ++ x ∷ []) ∷ [] = parts-more before l x e refl refl ∙ ap (onto_last x) old.made in
    let h : list_any is_command (first_of (parts (before ++ l ∷ []))) ≡ true = ap (λ ps. list_any is_command (first_of ps)) is ∙ one_at_last is_command (map Some old.opening) x refl in
    let n : list_any is_command (first_of (parts (before ++ l ∷ []))) ≡ false = ap (λ ps. list_any is_command (first_of ps)) s.made ∙ none_opening is_command (λ n. refl) (λ ns. refl) s.opening s.opens in
    cc

-- a line of an opening after the first body
pub no_script_with_late : (before : List (List ℕ)) (l : List ℕ) (x : Line) (cs rs cs' rs' : List ℕ) (there bodies : List Commands) → said_by l ≡ Some x → is_opening x ≡ true
    → 0 < length there → IsScript before cs rs there → IsScript (before ++ l ∷ []) cs' rs' bodies → ⊥
no_script_with_late before l x cs rs cs' rs' [] bodies e o some old s = absurd (omega (arith, some))
no_script_with_late before l x cs rs cs' rs' (b ∷ there) bodies e o some old s =
    let is : parts (before ++ l ∷ []) ≡ map Some old.opening ∷ onto_last (Some x) (written b ∷ map written there) = parts-opening before l x e o ∙ ap (onto_last (Some x)) old.made in
    let h : list_any (list_any is_of_opening) (rest_of (parts (before ++ l ∷ []))) ≡ true =
    ap (λ ps. list_any (list_any is_of_opening) (rest_of ps)) is ∙ one_onto_last is_of_opening (written b ∷ map written there) (Some x) o in
    let n : list_any (list_any is_of_opening) (rest_of (parts (before ++ l ∷ []))) ≡ false =
    ap (λ ps. list_any (list_any is_of_opening) (rest_of ps)) s.made ∙ none_written is_of_opening (λ c. refl) bodies in
    cc

-- the parts of a script to whose last body a command comes
parts-last : (before : List (List ℕ)) (l : List ℕ) (c : Command) (cs rs : List ℕ) (front : List Commands) (b : Commands) → said_by l ≡ Some (line.Command c)
    → (old : IsScript before cs rs (front ++ b ∷ [])) → parts (before ++ l ∷ []) ≡ (map Some old.opening ∷ map written front) ++ (written b ++ Some (line.Command c) ∷ []) ∷ []
parts-last before l c cs rs front b e old =
    parts-more before l (Some (line.Command c)) e refl refl
    ∙ ap (onto_last (Some (line.Command c))) (old.made ∙ ap (λ m. map Some old.opening ∷ m) (map-append written front (b ∷ [])))
    ∙ onto_last-append (Some (line.Command c)) (map Some old.opening ∷ map written front) (written b)

opens-push : (cs : List Command) (c : Command) → opens_with_again (map (λ d. Some (line.Command d)) cs ++ Some (line.Command c) ∷ []) ≡ begins_again (cs ++ c ∷ [])
opens-push [] command.Again = refl
opens-push [] _ = refl
opens-push (command.Again ∷ cs) c = refl
opens-push (_ ∷ cs) c = refl

opens_opening : (xs : List Line) → list_all is_opening xs ≡ true → opens_with_again (map Some xs) ≡ false
opens_opening [] e = refl
opens_opening (line.Channel n ∷ xs) e = refl
opens_opening (line.Clock ns ∷ xs) e = refl
opens_opening (line.Nothing ∷ xs) e = refl
opens_opening (line.Body ∷ xs) e = refl
opens_opening (line.Command c ∷ xs) e = cc

-- `again` as the first command of a body
pub no_script_with_again : (before : List (List ℕ)) (l : List ℕ) (c : Command) (cs rs cs' rs' : List ℕ) (front : List Commands) (b : Commands) (bodies : List Commands)
    → said_by l ≡ Some (line.Command c) → begins_again (b.commands ++ c ∷ []) ≡ true
    → IsScript before cs rs (front ++ b ∷ []) → IsScript (before ++ l ∷ []) cs' rs' bodies → ⊥
no_script_with_again before l c cs rs cs' rs' front b bodies e a old s =
    let h : list_any opens_with_again (parts (before ++ l ∷ [])) ≡ true = ap (list_any opens_with_again) (parts-last before l c cs rs front b e old)
    ∙ one_at_last opens_with_again (map Some old.opening ∷ map written front) (written b ++ Some (line.Command c) ∷ []) (opens-push b.commands c ∙ a) in
    let n = s.begin in
    cc

none_at_last : {X : Type 0} (p : X → Bool) (xs : List X) (x y : X) → list_any p (xs ++ x ∷ []) ≡ false → p y ≡ false → list_any p (xs ++ y ∷ []) ≡ false
none_at_last p xs x y h e = grind (arith, common_steps)

last_All : {X : Type 0} (P : X → Type 0) (xs : List X) (x y : X) → All P (xs ++ x ∷ []) → (P x → P y) → All P (xs ++ y ∷ [])
last_All P [] x y h k = All-cons P y [] (k (All-head P x [] h)) (All-nil P)
last_All P (z ∷ xs) x y h k = All-cons P z (xs ++ y ∷ []) (All-head P z (xs ++ x ∷ []) h) (last_All P xs x y (All-tail P z (xs ++ x ∷ []) h) k)

flat_map-push : {X A : Type 0} (f : X → List A) (xs : List X) (x : X) → flat_map f (xs ++ x ∷ []) ≡ flat_map f xs ++ f x
flat_map-push f xs x = flat_map-append f xs (x ∷ []) ∙ ap (λ ys. flat_map f xs ++ ys) (append-nil (f x))

-- Lines that go on with a script

script_with_opening : (before : List (List ℕ)) (l : List ℕ) (x : Line) (cs rs : List ℕ) → said_by l ≡ Some x → is_opening x ≡ true
    → IsScript before cs rs [] → IsScript (before ++ l ∷ []) (cs ++ capacities_in x) (rs ++ readings_in x) []
script_with_opening before l x cs rs e o old =
    let is : parts (before ++ l ∷ []) ≡ map Some (old.opening ++ x ∷ []) ∷ [] = parts-opening before l x e o ∙ ap (onto_last (Some x)) old.made
    ∙ ap (λ part. part ∷ []) (sym (map-append Some old.opening (x ∷ []))) in
    let all : list_all is_opening (old.opening ++ x ∷ []) ≡ true = list_all-append is_opening old.opening (x ∷ []) ∙ rw (old.opens, o) refl in
    record {
      opening = old.opening ++ x ∷ [];
      made = is;
      opens = all;
      channels = ap (λ c. c ++ capacities_in x) old.channels ∙ sym (flat_map-push capacities_in old.opening x);
      clock = ap (λ c. c ++ readings_in x) old.clock ∙ sym (flat_map-push readings_in old.opening x);
      begin = ap (list_any opens_with_again) is ∙ rw (opens_opening (old.opening ++ x ∷ []) all) refl;
      fresh = old.fresh;
    }

pub script_with_channel : (before : List (List ℕ)) (l : List ℕ) (k : ℕ) (cs rs : List ℕ) → said_by l ≡ Some (line.Channel k)
    → IsScript before cs rs [] → IsScript (before ++ l ∷ []) (cs ++ k ∷ []) rs []
script_with_channel before l k cs rs e old = rw (append-nil rs) at (script_with_opening before l (line.Channel k) cs rs e refl old)

pub script_with_clock : (before : List (List ℕ)) (l : List ℕ) (ns cs rs : List ℕ) → said_by l ≡ Some (line.Clock ns)
    → IsScript before cs rs [] → IsScript (before ++ l ∷ []) cs (rs ++ ns) []
script_with_clock before l ns cs rs e old = rw (append-nil cs) at (script_with_opening before l (line.Clock ns) cs rs e refl old)

pub script_with_body : (before : List (List ℕ)) (l cs rs : List ℕ) (bodies : List Commands) → said_by l ≡ Some line.Body
    → IsScript before cs rs bodies → IsScript (before ++ l ∷ []) cs rs (bodies ++ record { commands = []; next = 0 } ∷ [])
script_with_body before l cs rs bodies e old = record {
  opening = old.opening;
  made = parts-body before l e ∙ ap (λ p. p ++ [] ∷ []) old.made ∙ ap (λ m. map Some old.opening ∷ m) (sym (map-append written bodies (record { commands = []; next = 0 } ∷ [])));
  opens = old.opens;
  channels = old.channels;
  clock = old.clock;
  begin = ap (list_any opens_with_again) (parts-body before l e) ∙ list_any-append opens_with_again (parts before) ([] ∷ []) ∙ ap (λ a. a || false) old.begin;
  fresh = All-append (λ b. b.next ≡ 0) bodies (record { commands = []; next = 0 } ∷ []) old.fresh (search rules);
}

pub script_with_command : (before : List (List ℕ)) (l : List ℕ) (c : Command) (cs rs : List ℕ) (front : List Commands) (b : Commands)
    → said_by l ≡ Some (line.Command c) → begins_again (b.commands ++ c ∷ []) ≡ false
    → IsScript before cs rs (front ++ b ∷ []) → IsScript (before ++ l ∷ []) cs rs (front ++ record b { commands = b.commands ++ c ∷ [] } ∷ [])
script_with_command before l c cs rs front b e a old = record {
  opening = old.opening;
  made = parts-last before l c cs rs front b e old
      ∙ ap (λ w. (map Some old.opening ∷ map written front) ++ w ∷ []) (sym (map-append (λ d. Some (line.Command d)) b.commands (c ∷ [])))
      ∙ ap (λ m. map Some old.opening ∷ m) (sym (map-append written front (record b { commands = b.commands ++ c ∷ [] } ∷ [])));
  opens = old.opens;
  channels = old.channels;
  clock = old.clock;
  begin =
      let n : list_any opens_with_again ((map Some old.opening ∷ map written front) ++ written b ∷ []) ≡ false =
      ap (list_any opens_with_again) (sym (old.made ∙ ap (λ m. map Some old.opening ∷ m) (map-append written front (b ∷ [])))) ∙ old.begin in
      let o : opens_with_again (written b ++ Some (line.Command c) ∷ []) ≡ false = opens-push b.commands c ∙ a in
      ap (list_any opens_with_again) (parts-last before l c cs rs front b e old) ∙ none_at_last opens_with_again (map Some old.opening ∷ map written front) (written b) _ n o;
  fresh = last_All (λ b. b.next ≡ 0) front b (record b { commands = b.commands ++ c ∷ [] }) old.fresh (λ h. h);
}
