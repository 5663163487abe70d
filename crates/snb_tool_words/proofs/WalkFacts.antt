-- What `clap` makes of the words of a line.
use Rattle.std.proofs.Common.{◌≡◌, ◌⊎◌, ◌==◌, ◌&&◌, ◌+◌, ◌∙◌, ◌++◌, ◌∷◌, [], ℕ, suc, List, Bool, true, false, Option, Some, None, refl, sym, subst, ap, inl, inr, map, cond, min, if◌then◌else◌}
use Rattle.std.proofs.lemmas.Bool.{cases_Bool, eqb-true}
use Rattle.std.proofs.lemmas.List.{append-nil}
use Rattle.std.specs.Prelude.{fold}
use Rattle.std.specs.List.{list_all}
use Rattle.std.specs.Str.{bytes_eq}
use Rattle.clap.specs.Lexer.{long_of, short_of, usize_max}
use Rattle.clap.specs.Simple.{App, Shape, argument_words, built, filled, is_simple, matches_of, names_of, new_rule, with_index}
use Rattle.clap.specs.Takes.{built_takes, default_passes, is_valid, settle_passes, takes, turn_passes, walk_passes}
use Rattle.clap.specs.Walk.{Row, Rule, Text, Walk, arg_by_id, arg_by_index, arg_by_long, at_row, finished, first_of, has_row, idle, more_values, nothing_held, option, rows_after, settled, used_by_id, walk_from, walked, with_default, with_values, without}
use Rattle.clap.specs.Values.{reading_of}
use Rattle.clap.specs.declared.builder.value_parser.ValueParser.TheVariants as vp
use Rattle.clap.specs.declared.parser.matches.ValueSource.TheVariants.{CommandLine}
use Rattle.snb_tool_words.specs.Taken.{option_rule}
use Rattle.snb_tool_words.specs.Words.{IsPlainWord}

-- what is given to names, in turn
abbrev pub Pairs : Type 0
Pairs = List (Text × Text)

-- the value that is given to a name
abbrev pub value_of : Text → Pairs → Option Text
value_of name [] = None
value_of name (p ∷ ps) = if bytes_eq p.0 name then Some p.1 else value_of name ps

-- ---- rules

-- a place and an option, as building fills them in
abbrev place_filled : ℕ → Text → Rule
place_filled k id = with_index k (filled (new_rule id))

abbrev option_filled : Text → Rule
option_filled n = filled (option_rule n)

-- the k-th place has this id
pub record IsPlaced (rules : List Rule) (k : ℕ) (id : Text) : Type 0 where
  pub by_index : arg_by_index rules k ≡ Some (place_filled k id)
  pub by_id : arg_by_id rules id ≡ Some (place_filled k id)
  pub after : min (k + 1) usize_max ≡ suc k

-- an option has this name
pub record IsOption (rules : List Rule) (n : Text) : Type 0 where
  pub by_long : arg_by_long rules n ≡ Some (option_filled n)
  pub by_id : arg_by_id rules n ≡ Some (option_filled n)
  pub name : long_of (45 ∷ 45 ∷ n) ≡ Some (n, None)
  pub dashes : bytes_eq (45 ∷ 45 ∷ n) (45 ∷ 45 ∷ []) ≡ false
  pub same : bytes_eq n n ≡ true

-- a place or an option has this id
abbrev pub IsId : List Rule → Text → Type 0
IsId rules q = ((k : ℕ) × IsPlaced rules k q) ⊎ IsOption rules q

-- ---- words

-- a word that is no flag
record IsNoFlag (v : Text) : Type 0 where
  dashes : bytes_eq v (45 ∷ 45 ∷ []) ≡ false
  long : long_of v ≡ None
  short : short_of v ≡ None

no_flag : (v : Text) → IsPlainWord v → IsNoFlag v
no_flag [] e = absurd e
no_flag (b ∷ rest) e = elim (cases_Bool (b == 45)) [
  | inl hyphen ↦ absurd (e (eqb-true b 45 hyphen))
  | inr other ↦ record { dashes = rw other refl; long = rw other refl; short = rw other refl }
]

and_false : (b : Bool) → (b && false) ≡ false
and_false true = refl
and_false false = refl

-- ---- rows

abbrev pub to_row : Text × Text → Row
to_row o = record { id = o.0; values = o.1 ∷ []; count = None; source = Some CommandLine; reading = reading_of vp.String }

-- no row has an id that nothing is given to
no_row : (q : Text) (ps : Pairs) → value_of q ps ≡ None → has_row q (map to_row ps) ≡ false
no_row q [] e = refl
no_row q (p ∷ ps) e = elim (cases_Bool (bytes_eq p.0 q)) [
  | inl same ↦ cc (rw same at e)
  | inr other ↦ let later = rw other at e in rw other (no_row q ps later)
]

-- and then a change of its row is one more row at the end
row_added : (q : Text) (change : Row → List Row) (missing : List Row) (ps : Pairs) → value_of q ps ≡ None → at_row q change missing (map to_row ps) ≡ map to_row ps ++ missing
row_added q change missing [] e = refl
row_added q change missing (p ∷ ps) e = elim (cases_Bool (bytes_eq p.0 q)) [
  | inl same ↦ cc (rw same at e)
  | inr other ↦ let later = rw other at e in rw other (ap (λ (t : List Row). to_row p ∷ t) (row_added q change missing ps later))
]

map-snoc : (ps : Pairs) (p : Text × Text) → map to_row ps ++ to_row p ∷ [] ≡ map to_row (ps ++ p ∷ [])
map-snoc [] p = refl
map-snoc (x ∷ ps) p = ap (λ (t : List Row). to_row x ∷ t) (map-snoc ps p)

without_none : (q : Text) (ps : Pairs) → value_of q ps ≡ None → without q (map to_row ps) ≡ map to_row ps
without_none q ps e = row_added q (λ _. []) [] ps e ∙ append-nil (map to_row ps)

added : (u : Text) (ps : Pairs) (n : Text) → value_of n ps ≡ None → with_values n (reading_of vp.String) CommandLine (u ∷ []) (without n (map to_row ps)) ≡ map to_row (ps ++ (n, u) ∷ [])
added u ps n none = rw (without_none n ps none) (row_added n (more_values CommandLine (u ∷ [])) (to_row (n, u) ∷ []) ps none ∙ map-snoc ps (n, u))

-- ---- the walk

-- where it stands after a value, which is pending, and after an option's name, which waits for its value
abbrev pub after : ℕ → List Row → Text → Text → Walk
after k rows q u = record { held = record { rows = rows; pending = Some (q, u ∷ []); skip = 0 }; waiting = idle; position = k; is_trailing = false; stopped = None }

abbrev named : ℕ → List Row → Text → Walk
named k rows n = record { held = record { rows = rows; pending = Some (n, []); skip = 0 }; waiting = option n; position = k; is_trailing = false; stopped = None }

-- from there the words pass, and at their end this is given
pub record Runs (s : Shape) (w : Walk) (words : List Text) (given : Pairs) : Type 0 where
  pub passes : walk_passes s [] w words ≡ true
  pub settles : settle_passes s.rules false (fold (walked s.rules []) w words).held ≡ true
  pub stops : (fold (walked s.rules []) w words).stopped ≡ None
  pub rows : (settled s.rules (fold (walked s.rules []) w words).held).rows ≡ map to_row given

module _ (s : Shape) (own : s.args_override_self ≡ false) where
  -- a value that was pending may be used, and when it is used it is given
  used_is : (u : Text) (ps : Pairs) (q : Text) → IsId s.rules q → value_of q ps ≡ None → used_by_id (arg_by_id s.rules q) (u ∷ []) (map to_row ps) ≡ map to_row (ps ++ (q, u) ∷ [])
  used_is u ps q (inl (k, place)) none = rw place.by_id (added u ps q none)
  used_is u ps q (inr o) none = rw o.by_id (added u ps q none)

  settling : (u : Text) (ps : Pairs) (k : ℕ) (q : Text) → IsId s.rules q → value_of q ps ≡ None → settle_passes s.rules false (after k (map to_row ps) q u).held ≡ true
  settling u ps k q (inl (j, place)) none = rw (place.by_id, no_row q ps none) refl
  settling u ps k q (inr o) none = rw (o.by_id, no_row q ps none) refl

  -- one word more
  step : (w next : Walk) (x : Text) (words : List Text) (given : Pairs) → turn_passes s [] w x ≡ true → walked s.rules [] w x ≡ next → Runs s next words given → Runs s w (x ∷ words) given
  unfolding walk_passes
  step w next x words given turn moves r = record {
    passes = rw (turn, moves) r.passes;
    settles = subst (λ (x : Walk). settle_passes s.rules false (fold (walked s.rules []) x words).held ≡ true) (sym moves) r.settles;
    stops = subst (λ (x : Walk). (fold (walked s.rules []) x words).stopped ≡ None) (sym moves) r.stops;
    rows = subst (λ (x : Walk). (settled s.rules (fold (walked s.rules []) x words).held).rows ≡ map to_row given) (sym moves) r.rows;
  }

  no_words_pass : (w : Walk) → walk_passes s [] w [] ≡ true
  unfolding walk_passes
  no_words_pass w = refl

  -- no word more
  pub ends : (k : ℕ) (ps : Pairs) (q u : Text) → IsId s.rules q → value_of q ps ≡ None → Runs s (after k (map to_row ps) q u) [] (ps ++ (q, u) ∷ [])
  ends k ps q u id none = record { passes = no_words_pass _; settles = settling u ps k q id none; stops = refl; rows = used_is u ps q id none }

  -- the first word is the value of the first place
  first_turn : (w : Text) → IsNoFlag w → (id : Text) → IsPlaced s.rules 1 id → turn_passes s [] (walk_from nothing_held) w ≡ true
  first_turn w h id place = rw (own, h.dashes, h.long, h.short, place.by_index) refl

  first_moves : (w : Text) → IsNoFlag w → (id : Text) → IsPlaced s.rules 1 id → walked s.rules [] (walk_from nothing_held) w ≡ after 2 [] id w
  unfolding walked
  first_moves w h id place = rw (h.dashes, h.long, h.short, place.by_index) refl

  pub first : (v id : Text) (words : List Text) (given : Pairs) → IsPlainWord v → IsPlaced s.rules 1 id → Runs s (after 2 [] id v) words given → Runs s (walk_from nothing_held) (v ∷ words) given
  first v id words given plain place r =
      let h = no_flag v plain in
      step (walk_from nothing_held) (after 2 [] id v) v words given (first_turn v h id place) (first_moves v h id place) r

  -- a word is the value of the next place
  place_turn : (k : ℕ) (rows : List Row) (q u v id : Text) → IsNoFlag v → IsPlaced s.rules k id → settle_passes s.rules false (after k rows q u).held ≡ true
      → turn_passes s [] (after k rows q u) v ≡ true
  place_turn k rows q u v id h place settle = rw (own, h.dashes, h.long, h.short, place.by_index, and_false (bytes_eq q id), settle) refl

  place_moves : (k : ℕ) (rows : List Row) (q u v id : Text) → IsNoFlag v → IsPlaced s.rules k id
      → walked s.rules [] (after k rows q u) v ≡ after (suc k) (used_by_id (arg_by_id s.rules q) (u ∷ []) rows) id v
  unfolding walked
  place_moves k rows q u v id h place = rw (h.dashes, h.long, h.short, place.by_index, and_false (bytes_eq q id), place.after) refl

  pub placed : (k : ℕ) (ps : Pairs) (q u v id : Text) (words : List Text) (given : Pairs) → IsId s.rules q → value_of q ps ≡ None → IsPlainWord v → IsPlaced s.rules k id
      → Runs s (after (suc k) (map to_row (ps ++ (q, u) ∷ [])) id v) words given → Runs s (after k (map to_row ps) q u) (v ∷ words) given
  placed k ps q u v id words given known none plain place r =
      let h = no_flag v plain in
      step (after k (map to_row ps) q u) _ v words given (place_turn k (map to_row ps) q u v id h place (settling u ps k q known none))
      (place_moves k (map to_row ps) q u v id h place ∙ ap (λ (rows : List Row). after (suc k) rows id v) (used_is u ps q known none)) r

  -- two words are the name of an option and its value
  name_turn : (k : ℕ) (rows : List Row) (q u n : Text) → IsOption s.rules n → settle_passes s.rules false (after k rows q u).held ≡ true
      → turn_passes s [] (after k rows q u) (45 ∷ 45 ∷ n) ≡ true
  name_turn k rows q u n o settle = rw (own, o.dashes, o.name, o.by_long, settle) refl

  name_moves : (k : ℕ) (rows : List Row) (q u n : Text) → IsOption s.rules n
      → walked s.rules [] (after k rows q u) (45 ∷ 45 ∷ n) ≡ named k (used_by_id (arg_by_id s.rules q) (u ∷ []) rows) n
  unfolding walked
  name_moves k rows q u n o = rw (o.dashes, o.name, o.by_long) refl

  value_turn : (k : ℕ) (rows : List Row) (n v : Text) → IsNoFlag v → turn_passes s [] (named k rows n) v ≡ true
  value_turn k rows n v h = rw (h.dashes, h.long, h.short) refl

  value_moves : (k : ℕ) (rows : List Row) (n v : Text) → IsNoFlag v → IsOption s.rules n → walked s.rules [] (named k rows n) v ≡ after k rows n v
  unfolding walked
  value_moves k rows n v h o = rw (h.dashes, h.long, h.short, o.by_id, o.same) refl

  pub optioned : (k : ℕ) (ps : Pairs) (q u n v : Text) (words : List Text) (given : Pairs) → IsId s.rules q → value_of q ps ≡ None → IsPlainWord v → IsOption s.rules n
      → Runs s (after k (map to_row (ps ++ (q, u) ∷ [])) n v) words given → Runs s (after k (map to_row ps) q u) ((45 ∷ 45 ∷ n) ∷ v ∷ words) given
  optioned k ps q u n v words given known none plain o r =
      let h = no_flag v plain in
      step (after k (map to_row ps) q u) (named k (map to_row (ps ++ (q, u) ∷ [])) n) (45 ∷ 45 ∷ n) (v ∷ words) given (name_turn k (map to_row ps) q u n o (settling u ps k q known none))
      (name_moves k (map to_row ps) q u n o ∙ ap (λ (rows : List Row). named k rows n) (used_is u ps q known none))
      (step (named k (map to_row (ps ++ (q, u) ∷ [])) n) _ v words given (value_turn k _ n v h) (value_moves k _ n v h o) r)

-- ---- the whole line

-- no rule has a default
abbrev pub HaveNone : List Rule → Type 0
HaveNone [] = Unit {0}
HaveNone (a ∷ more) = (a.defaults ≡ []) × HaveNone more

same_if : {X : Type 0} (b : Bool) (x : X) → cond b x x ≡ x
same_if true x = refl
same_if false x = refl

no_default : (rows : List Row) (a : Rule) → a.defaults ≡ [] → with_default rows a ≡ rows
no_default rows a e = rw e (same_if (has_row a.id rows) rows)

no_default_of : (rs : List Rule) (rows : List Row) → HaveNone rs → fold with_default rows rs ≡ rows
no_default_of [] rows h = refl
no_default_of (a ∷ rs) rows h = ap (λ (r : List Row). fold with_default r rs) (no_default rows a h.0) ∙ no_default_of rs rows h.1

found_of_rows : (name : Text) (ps : Pairs) → first_of name (map to_row ps) ≡ value_of name ps
found_of_rows name [] = refl
found_of_rows name (p ∷ ps) = elim (cases_Bool (bytes_eq p.0 name)) [ inl same ↦ rw same refl | inr other ↦ rw other (found_of_rows name ps) ]

-- the command is built so, and asks for nothing more than that the words pass
pub record IsBuilt (app : App) (s : Shape) : Type 0 where
  pub simple : is_simple app ≡ true
  pub named : app.top.no_binary_name ≡ false
  pub built_is : built app ≡ record { top = s; subs = [] }
  pub own : s.args_override_self ≡ false
  pub none : HaveNone s.rules
  pub defaults : list_all default_passes s.rules ≡ true
  pub valid : (rows : List Row) → is_valid s rows false ≡ true

-- `clap` takes words that run, and finds what is given
pub record Finds (app : App) (words : List Text) (given : Pairs) : Type 0 where
  pub takes : takes app words ≡ true
  pub value : (n : Text) → first_of n (matches_of app words) ≡ value_of n given

pub finds : (app : App) (s : Shape) → IsBuilt app s → (name : Text) (words : List Text) (given : Pairs) → Runs s (walk_from nothing_held) words given → Finds app (name ∷ words) given
finds app s b name words given r =
    let left : argument_words app (name ∷ words) ≡ words = rw b.named refl in
    let taken : built_takes (record { top = s; subs = [] }) nothing_held words ≡ true =
    rw (r.stops, r.passes, b.own, r.settles, b.defaults, b.valid (finished s.rules (fold (walked s.rules []) (walk_from nothing_held) words).held)) refl in
    record {
      takes = (λ i. b.simple i && built_takes (b.built_is i) nothing_held (left i)) ∙ taken;
      value = λ n. (λ i. first_of n (rows_after (b.built_is i).top.rules (names_of (b.built_is i)) (left i)))
          ∙ (ap (first_of n) (no_default_of s.rules _ b.none ∙ r.rows) ∙ found_of_rows n given);
    }
