-- Facts of what lines say, and of what a sink has of them.
use Rattle.std.proofs.Common.{◌≡◌, ◌≢◌, ◌==◌, true, false, ◌++◌, ◌∷◌, ◌∙◌, ◌+◌, ◌<◌, ◌≤◌, [], ℕ, Bool, List, refl, sym, ap, subst, length, arith, length-append, append_assoc, append-nil, Result, Ok, Err, Option, Some}
use Rattle.std.proofs.lemmas.List.Elements.{All-append}
use Rattle.snb_schema.specs.Lines.{HasNoEnd, fields}
use Rattle.snb_schema.specs.declared.fault.Fault.{Fault}
use Rattle.snb_schema.specs.declared.fault.Fault.TheVariants.{Bad, Memory}
use Rattle.snb_schema.specs.declared.file.FileId.{FileId}
use Rattle.snb_schema.specs.declared.refusal.Refusal.{Refusal}
use Rattle.snb_input_lines.specs.Cut.{IsCutAtEnd, last_lines, rest_of, whole_lines}
use Rattle.snb_input_lines.proofs.BarFacts.{is-empty, not-empty}
use Rattle.snb_input_lines.proofs.CutFacts.{first_whole, none_whole}
use Rattle.snb_input_lines.specs.Feeding.{OnMemory}
use Rattle.snb_input_lines.specs.Language.{FieldsAs, IsSplit, Language, SplitAs}
use Rattle.snb_input_lines.specs.Reading.{EndsBad, ReadsLine, ReadsSome, RefusesLine, Says, Stops, end_fault}
use Rattle.snb_input_lines.specs.Sinks.{Refuses, Runs, Takes}

-- fields that are those of a line, where lines are split
pub split_as : (splits : Bool) (line : List ℕ) (fs : List (List ℕ)) → FieldsAs splits line fs → (fs ≡ fields line → IsSplit line fs) → SplitAs splits line fs
split_as true line fs same s = s same
split_as false line fs same s = tt

pub fields_as : (splits : Bool) (line : List ℕ) (fs : List (List ℕ)) → fs ≡ fields line → FieldsAs splits line fs
fields_as true line fs same = same
fields_as false line fs same = tt

none_more : (n : ℕ) → n + length {A = List ℕ} [] ≡ n
none_more n = omega arith

-- items and then more items
pub runs_append : {S T : Type 0} (takes : Takes S T) (file : FileId) (xs ys : List T) (a b c : S) → Runs takes file a xs b → Runs takes file b ys c → Runs takes file a (xs ++ ys) c
runs_append {S} takes file [] ys a b c h k = subst (λ (s : S). Runs takes file s ys c) h k
runs_append takes file (x ∷ xs) ys a b c h k = (h.0, h.1, runs_append takes file xs ys h.0 b c h.2 k)

module _ {K T : Type 0} (g : Language K T) where
  -- lines and then more lines
  pub says_append : (before after : List (List ℕ)) (known mid new : Option K) (ended : ℕ) (items more : List T) → Says g known ended before items mid
      → Says g mid (ended + length before) after more new → Says g known ended (before ++ after) (items ++ more) new
  says_append [] after known mid new ended items more h k =
      let here : Says g known ended after more new = subst (λ (s : Option K). Says g s ended after more new) h.1 (subst (λ (n : ℕ). Says g mid n after more new) (none_more ended) k) in
      subst (λ (xs : List T). Says g known ended after (xs ++ more) new) (sym h.0) here
  says_append (line ∷ lines) after known mid new ended items more h k =
      let number : ended + length (line ∷ lines) ≡ (ended + 1) + length lines = omega arith in
      let rest = says_append lines after h.2 mid new (ended + 1) h.1 more h.4 (subst (λ (n : ℕ). Says g mid n after more new) number k) in
      (h.0, h.1 ++ more, h.2, h.3, rest, ap (λ (xs : List T). xs ++ more) h.5 ∙ append_assoc h.0 h.1 more)

  -- one line
  pub says_one : (line : List ℕ) (known new : Option K) (ended : ℕ) (items : List T) → ReadsLine g known (ended + 1) line items new → Says g known ended (line ∷ []) items new
  says_one line known new ended items h = (items, [], new, h, (refl, refl), sym (append-nil items))

-- the reader has come so far in a text: it has read lines that are ended, whose items the sink has, and the rest is left
pub record Coming {S K T : Type 0} (g : Language K T) (takes : Takes S T) (file : FileId)
    (known0 : Option K) (ended0 : ℕ) (text : List ℕ) (sink0 : S) (known : Option K) (ended : ℕ) (rest : List ℕ) (sink : S) : Type 0 where
  pub done : List (List ℕ)
  pub items : List T
  pub split : whole_lines text ≡ done ++ whole_lines rest
  pub last : rest_of text ≡ rest_of rest
  pub says : Says g known0 ended0 done items known
  pub runs : Runs takes file sink0 items sink
  pub numbered : ended ≡ ended0 + length done

module _ {S K T : Type 0} (g : Language K T) (takes : Takes S T) (file : FileId) where
  pub coming_at_once : (known : Option K) (ended : ℕ) (text : List ℕ) (sink : S) → Coming g takes file known ended text sink known ended text sink
  coming_at_once known ended text sink = record {
    done = [];
    items = [];
    split = refl;
    last = refl;
    says = (refl, refl);
    runs = refl;
    numbered = sym (none_more ended);
  }

  pub coming_step : (known0 : Option K) (ended0 : ℕ) (text : List ℕ) (sink0 : S) (known : Option K) (ended : ℕ) (rest : List ℕ) (sink : S) (line others : List ℕ) (more : List T) (next : Option K) (to : S)
      → Coming g takes file known0 ended0 text sink0 known ended rest sink → HasNoEnd line → rest ≡ line ++ 10 ∷ others → ReadsLine g known (ended + 1) line more next → Runs takes file sink more to
      → Coming g takes file known0 ended0 text sink0 next (ended + 1) others to
  coming_step known0 ended0 text sink0 known ended rest sink line others more next to k h e r s =
      let first = first_whole line others h in
      record {
        done = k.done ++ line ∷ [];
        items = k.items ++ more;
        split = k.split ∙ ap (λ (ls : List (List ℕ)). k.done ++ ls) (ap whole_lines e ∙ first.0) ∙ sym (append_assoc k.done (line ∷ []) (whole_lines others));
        last = k.last ∙ ap rest_of e ∙ first.1;
        says = says_append g k.done (line ∷ []) known0 known next ended0 k.items more k.says (subst (λ (n : ℕ). Says g known n (line ∷ []) more next) k.numbered (says_one g line known next ended more r));
        runs = runs_append takes file k.items more sink0 sink to k.runs s;
        numbered = let n = k.numbered in omega (arith, length-append k.done (line ∷ []));
      }

  -- and it has come to the end of the lines that are ended
  pub coming_whole : (known0 : Option K) (ended0 : ℕ) (text : List ℕ) (sink0 : S) (known : Option K) (ended : ℕ) (rest : List ℕ) (sink : S) → Coming g takes file known0 ended0 text sink0 known ended rest sink → HasNoEnd rest
      → ((items : List T) × Says g known0 ended0 (whole_lines text) items known × Runs takes file sink0 items sink) × (ended ≡ ended0 + length (whole_lines text)) × (rest ≡ rest_of text)
  coming_whole known0 ended0 text sink0 known ended rest sink k h =
      let none = none_whole rest h in
      let all : k.done ≡ whole_lines text = sym (k.split ∙ ap (λ (ls : List (List ℕ)). k.done ++ ls) none.0 ∙ append-nil k.done) in
      ((k.items, subst (λ (ls : List (List ℕ)). Says g known0 ended0 ls k.items known) all k.says, k.runs), k.numbered ∙ ap (λ (ls : List (List ℕ)). ended0 + length ls) all, sym (k.last ∙ none.1))

  -- memory ran out there
  pub coming_some : (same : S → S → Type 0) (known0 : Option K) (ended0 : ℕ) (text : List ℕ) (sink0 : S) (known : Option K) (ended : ℕ) (rest : List ℕ) (sink has : S) → Coming g takes file known0 ended0 text sink0 known ended rest sink → same sink has
      → (items : List T) × (mid : S) × ReadsSome g takes file known0 ended0 (whole_lines text) sink0 items mid × same mid has
  coming_some same known0 ended0 text sink0 known ended rest sink has k left =
      (k.items, sink, record { before = k.done; after = whole_lines rest; now = known; split = k.split; says = k.says; runs = k.runs }, left)

  -- the next line is refused there
  pub coming_stops : (refuses : Refuses S T) (same : S → S → Type 0) (known0 : Option K) (ended0 : ℕ) (text : List ℕ) (sink0 : S) (known : Option K) (ended : ℕ) (rest : List ℕ) (sink has : S) (line others : List ℕ) (r : Refusal)
      → Coming g takes file known0 ended0 text sink0 known ended rest sink → HasNoEnd line → rest ≡ line ++ 10 ∷ others → RefusesLine g refuses file known sink (ended + 1) line r → same sink has
      → (items : List T) × (mid : S) × Stops g takes refuses file known0 ended0 (whole_lines text) sink0 items mid r × same mid has
  coming_stops refuses same known0 ended0 text sink0 known ended rest sink has line others r k h e bad left =
      let first = first_whole line others h in (
        k.items,
        sink,
        record {
          before = k.done;
          line = line;
          after = whole_lines others;
          now = known;
          split = k.split ∙ ap (λ (ls : List (List ℕ)). k.done ++ ls) (ap whole_lines e ∙ first.0);
          says = k.says;
          runs = k.runs;
          refused = subst (λ (n : ℕ). RefusesLine g refuses file known sink (n + 1) line r) k.numbered bad;
        },
        left,
      )

  -- the first line is refused
  pub stops_first : (refuses : Refuses S T) (known : Option K) (ended : ℕ) (line : List ℕ) (after : List (List ℕ)) (sink : S) (r : Refusal) → RefusesLine g refuses file known sink (ended + 1) line r → Stops g takes refuses file known ended (line ∷ after) sink [] sink r
  stops_first refuses known ended line after sink r bad = record {
    before = [];
    line = line;
    after = after;
    now = known;
    split = refl;
    says = (refl, refl);
    runs = refl;
    refused = subst (λ (n : ℕ). RefusesLine g refuses file known sink (n + 1) line r) (sym (none_more ended)) bad;
  }

  -- none of the lines is read
  pub none_some : (known : Option K) (ended : ℕ) (lines : List (List ℕ)) (sink : S) → ReadsSome g takes file known ended lines sink [] sink
  none_some known ended lines sink = record { before = []; after = lines; now = known; split = refl; says = (refl, refl); runs = refl }

last_one : (line : List ℕ) → line ≢ [] → last_lines line ≡ line ∷ []
last_one [] n = absurd (n refl)
last_one (b ∷ bs) n = refl

module _ {S K T : Type 0} (g : Language K T) (takes : Takes S T) (file : FileId) where
  -- the last line of a file is refused
  pub last_stops : (refuses : Refuses S T) (known : Option K) (ended : ℕ) (begun : List ℕ) (sink : S) (r : Refusal) → begun ≢ []
      → RefusesLine g refuses file known sink (ended + 1) begun r → Stops g takes refuses file known ended (last_lines begun) sink [] sink r
  last_stops refuses known ended begun sink r n bad =
      subst (λ (ls : List (List ℕ)). Stops g takes refuses file known ended ls sink [] sink r) (sym (last_one begun n)) (stops_first g takes file refuses known ended begun [] sink r bad)

  -- the last line of a file is read
  pub last_read : (known new : Option K) (ended : ℕ) (begun : List ℕ) (items : List T) → begun ≢ [] → ReadsLine g known (ended + 1) begun items new → Says g known ended (last_lines begun) items new
  last_read known new ended begun items n read = subst (λ (ls : List (List ℕ)). Says g known ended ls items new) (sym (last_one begun n)) (says_one g begun known new ended items read)

  -- there is no last line
  pub none_read : (known : Option K) (ended : ℕ) (begun : List ℕ) → begun ≡ [] → Says g known ended (last_lines begun) [] known
  none_read known ended begun e = subst (λ (b : List ℕ). Says g known ended (last_lines b) [] known) (sym e) (refl, refl)

  -- the last line of a file is read, and then the file is refused
  pub last_then_bad : (ends : S → FileId → Option Refusal) (known new : Option K) (ended : ℕ) (begun : List ℕ) (items : List T) (old mid : S) (r : Refusal) → begun ≢ []
      → ReadsLine g known (ended + 1) begun items new → Runs takes file old items mid → end_fault file new (ends mid file) ≡ Some r → EndsBad g takes ends file known ended (last_lines begun) old items mid r
  last_then_bad ends known new ended begun items old mid r n read runs bad = record { now = new; says = last_read known new ended begun items n read; runs = runs; refused = bad }

  -- a file that has no last line is refused
  pub bad_at_once : (ends : S → FileId → Option Refusal) (known : Option K) (ended : ℕ) (begun : List ℕ) (sink : S) (r : Refusal) → begun ≡ [] → end_fault file known (ends sink file) ≡ Some r
      → EndsBad g takes ends file known ended (last_lines begun) sink [] sink r
  bad_at_once ends known ended begun sink r e bad = record { now = known; says = none_read known ended begun e; runs = refl; refused = bad }

-- a fact that holds whatever ran out
pub on_memory : (given : Result (Unit {0}) Fault) (P : Type 0) → P → OnMemory given P
on_memory (Ok a) P p = tt
on_memory (Err (Bad r)) P p = tt
on_memory (Err Memory) P p = p

-- past a line less is left
pub room_step : (rest line others : List ℕ) (ended next most : ℕ) → rest ≡ line ++ 10 ∷ others → ended + length rest ≤ most → next ≡ ended + 1 → next + length others ≤ most
room_step rest line others ended next most e l n = omega (arith, ap length e, length-append line (10 ∷ others))

pub shorter : (rest line others : List ℕ) → rest ≡ line ++ 10 ∷ others → length others < length rest
shorter rest line others e = omega (arith, ap length e, length-append line (10 ∷ others))

-- a line begun, its last bytes and what follows them are that line and the piece
pub piece_text : (begun piece head others line text : List ℕ) → IsCutAtEnd piece head others → line ≡ begun ++ head → text ≡ line ++ others → text ≡ begun ++ piece
piece_text begun piece head others line text cut l t =
    t ∙ ap (λ (xs : List ℕ). xs ++ others) l ∙ append_assoc begun head others ∙ ap (λ (xs : List ℕ). begun ++ xs) (ap (λ (xs : List ℕ). head ++ xs) cut.ends ∙ sym cut.joined)

-- the line begun stays one line
pub piece_line : (begun piece head others : List ℕ) → HasNoEnd begun → IsCutAtEnd piece head others → HasNoEnd (begun ++ head)
piece_line begun piece head others h cut = All-append (λ b. b ≢ 10) begun head h cut.one_line

-- a piece without a line end only makes the line begun longer
pub piece_whole : (begun piece : List ℕ) → HasNoEnd begun → HasNoEnd piece → (whole_lines (begun ++ piece) ≡ []) × (rest_of (begun ++ piece) ≡ begun ++ piece)
piece_whole begun piece h k = none_whole (begun ++ piece) (All-append (λ b. b ≢ 10) begun piece h k)

-- what the length of a vector tells of its items
pub filled_vec : (items : List ℕ) (len : ℕ) → len ≡ length items → (len == 0) ≡ false → items ≢ []
filled_vec items len e f = not-empty items (subst (λ (n : ℕ). (n == 0) ≡ false) e f)

pub empty_vec : (items : List ℕ) (len : ℕ) → len ≡ length items → (len == 0) ≡ true → items ≡ []
empty_vec items len e f = is-empty items (subst (λ (n : ℕ). (n == 0) ≡ true) e f)
