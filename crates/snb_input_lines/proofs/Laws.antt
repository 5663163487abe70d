-- What other crates may cite of this one: facts of lines, of what they say over any language, and of a reader that is fed piece by piece.
use Rattle.std.proofs.Common.{[], All, ap, append-nil, append_assoc, arith, inl, inr, length, length-append, List, None, Option, refl, Some, subst, suc, sym, zero, zero-add, ℕ, ◌++◌, ◌+◌, ◌<◌, ◌∙◌, ◌∷◌, ◌≡◌, ◌≢◌}
use Rattle.std.proofs.lemmas.List.Elements.{All-cons, All-head, All-nil, All-tail}
use Rattle.snb_schema.specs.Lines.{HasNoEnd, data_lines, filled, lines}
use Rattle.snb_schema.specs.declared.file.FileId.{FileId}
use Rattle.snb_schema.specs.declared.refusal.Refusal.{Refusal}
use Rattle.snb_input_lines.specs.Files.{AreEach, AreUnder}
use Rattle.snb_input_lines.specs.Language.{IsText, Language}
use Rattle.snb_input_lines.specs.Laws.{IsExact, Joins, ReadsOn, ReadsOnce, TakesOnce}
use Rattle.snb_input_lines.specs.Lists.{BadColumn, RefusesLine, Stops}
use Rattle.snb_input_lines.specs.Reading.{LineSays, ReadsLine, ReadsSome, Says, EndsBad, end_fault}
use Rattle.snb_input_lines.specs.Sinks.{Heard, Hears, Own, Refuses, Runs, Takes}
use Rattle.snb_input_lines.specs.Cut.{last_lines, rest_of, whole_lines}
use Rattle.snb_input_lines.specs.Fed.{Fed}
use Rattle.snb_input_lines.specs.Feeding.{HasRead, HasRunOut, HasStopped, HasStoppedAtEnd, Reader, at_begin, fed_more, left_lines, new_lines}
use Rattle.snb_input_lines.specs.Reading as run
use Rattle.snb_input_lines.proofs.CaseFacts.{text_to_case}
use Rattle.snb_input_lines.proofs.CutFacts
use Rattle.snb_input_lines.proofs.RunFacts
pub use Rattle.snb_input_lines.proofs.CutFacts.{cut_any, cut_counts, ended, first_whole, lines_no_end, lines_whole, none_whole, rest_no_end}
pub use Rattle.snb_input_lines.proofs.FieldFacts.{fields_plain}
pub use Rattle.snb_input_lines.proofs.ListFacts.{on_bad_weaker, on_memory_weaker}
use Rattle.std.specs.Borrow.{Bor}
use Rattle.std.specs.Option.{option_map}
use Rattle.snb_input_lines.specs.Records.{field_at}

-- what holds of a text without a line end, and of a line that is ended and what follows it if of what follows, holds of each text
pub by_lines : (P : List ℕ → Type 0) → ((line : List ℕ) → HasNoEnd line → P line) → ((line rest : List ℕ) → HasNoEnd line → P rest → P (line ++ 10 ∷ rest)) → (text : List ℕ) → P text
by_lines = CutFacts.by_cuts 10

-- items that a sink takes one after the other were told to it
pub runs_heard : {S T : Type 0} (takes : Takes S T) (refuses : Refuses S T) (heard : Heard S T) (own : Own T) → Hears takes refuses heard own → (file : FileId) (xs : List T) (old new : S) (done : List (List T)) (mine : List T)
    → heard old done mine → Runs takes file old xs new → heard new done (mine ++ xs)
runs_heard {S} {T} takes refuses heard own h file [] old new done mine k run = subst (λ (ys : List T). heard new done ys) (sym (append-nil mine)) (subst (λ (s : S). heard s done mine) (sym run) k)
runs_heard {S} {T} takes refuses heard own h file (x ∷ xs) old new done mine k run =
    let next = h.more old run.0 file x done mine k run.1 in
    subst (λ (ys : List T). heard new done ys) (append_assoc mine (x ∷ []) xs) (runs_heard takes refuses heard own h file xs run.0 new done (mine ++ x ∷ []) next run.2)

-- after so many lines the first of these with a byte is a header, and the items are those of the data lines, which follow it
pub record UnderAfter {T : Type 0} (IsHeader : List ℕ → Type 0) (IsItem : ℕ → List ℕ → T → Type 0) (n : ℕ) (lines : List (List ℕ)) (items : List T) : Type 0 where
  pub before : List (List ℕ)
  pub header : List ℕ
  pub after : List (List ℕ)
  pub split : lines ≡ before ++ header ∷ after
  pub none_before : filled before ≡ []
  pub some : header ≢ []
  pub is_header : IsHeader header
  pub follows : data_lines lines ≡ filled after
  pub each : AreEach IsItem (n + (length before + 1)) after items

pub under : {T : Type 0} (IsHeader : List ℕ → Type 0) (IsItem : ℕ → List ℕ → T → Type 0) (lines : List (List ℕ)) (items : List T) → UnderAfter IsHeader IsItem 0 lines items → AreUnder IsHeader IsItem lines items
under IsHeader IsItem lines items r =
    let number : 0 + (length r.before + 1) ≡ length r.before + 1 = omega arith in
    record {
      before = r.before;
      header = r.header;
      after = r.after;
      split = r.split;
      none_before = r.none_before;
      some = r.some;
      is_header = r.is_header;
      follows = r.follows;
      each = subst (λ (m : ℕ). AreEach IsItem m r.after items) number r.each;
    }

module _ {K T : Type 0} (g : Language K T) where
  -- lines and then more lines
  pub says_append : (before after : List (List ℕ)) (known mid new : Option K) (ended : ℕ) (items more : List T) → Says g known ended before items mid
      → Says g mid (ended + length before) after more new → Says g known ended (before ++ after) (items ++ more) new
  says_append = RunFacts.says_append g

  -- lines and then more lines, of which one is refused
  pub stops_later : (file : FileId) (before after : List (List ℕ)) (known mid : Option K) (ended : ℕ) (items more : List T) (r : Refusal) → Says g known ended before items mid
      → Stops g file mid (ended + length before) after more r → Stops g file known ended (before ++ after) (items ++ more) r
  stops_later file before after known mid ended items more r h k = record {
    before = before ++ k.before;
    line = k.line;
    after = k.after;
    now = k.now;
    split = ap (λ (ls : List (List ℕ)). before ++ ls) k.split ∙ sym (append_assoc before k.before (k.line ∷ k.after));
    says = says_append before k.before known mid k.now ended items more h k.says;
    refused =
        let number : ended + length before + length k.before ≡ ended + length (before ++ k.before) = omega (arith, length-append before k.before) in
        subst (λ (n : ℕ). RefusesLine g file k.now (n + 1) k.line r) number k.refused;
  }

  -- a refusal stands whatever follows
  pub stops_anyway : (file : FileId) (lines after : List (List ℕ)) (known : Option K) (ended : ℕ) (items : List T) (r : Refusal) → Stops g file known ended lines items r → Stops g file known ended (lines ++ after) items r
  stops_anyway file lines after known ended items r k = record {
    before = k.before;
    line = k.line;
    after = k.after ++ after;
    now = k.now;
    split = ap (λ (ls : List (List ℕ)). ls ++ after) k.split ∙ append_assoc k.before (k.line ∷ k.after) after;
    says = k.says;
    refused = k.refused;
  }

  pub joins : (before after all : List (List ℕ)) → all ≡ before ++ after → Joins g before after all
  joins before after all e = record {
    says = λ known mid new ended items more h k. subst (λ (ls : List (List ℕ)). Says g known ended ls (items ++ more) new) (sym e) (says_append before after known mid new ended items more h k);
    stops = λ file known mid ended items more r h k. subst (λ (ls : List (List ℕ)). Stops g file known ended ls (items ++ more) r) (sym e) (stops_later file before after known mid ended items more r h k);
    stands = λ file known ended items r k. subst (λ (ls : List (List ℕ)). Stops g file known ended ls items r) (sym e) (stops_anyway file before after known ended items r k);
  }

  -- lines that are read, cut in two
  pub record Cut (known : Option K) (ended : ℕ) (before after : List (List ℕ)) (items : List T) (new : Option K) : Type 0 where
    pub front : List T
    pub back : List T
    pub mid : Option K
    pub first : Says g known ended before front mid
    pub later : Says g mid (ended + length before) after back new
    pub joined : items ≡ front ++ back

  pub says_cut : (before after : List (List ℕ)) (known new : Option K) (ended : ℕ) (items : List T) → Says g known ended (before ++ after) items new → Cut known ended before after items new
  says_cut [] after known new ended items h =
      let none : ended ≡ ended + length {A = List ℕ} [] = omega arith in
      record { front = []; back = items; mid = known; first = (refl, refl); later = subst (λ (n : ℕ). Says g known n after items new) none h; joined = refl }
  says_cut (line ∷ before) after known new ended items h =
      let c = says_cut before after h.2 new (ended + 1) h.1 h.4 in
      let number : (ended + 1) + length before ≡ ended + length (line ∷ before) = omega arith in
      record {
        front = h.0 ++ c.front;
        back = c.back;
        mid = c.mid;
        first = (h.0, c.front, h.2, h.3, c.first, refl);
        later = subst (λ (n : ℕ). Says g c.mid n after c.back new) number c.later;
        joined = h.5 ∙ ap (λ (xs : List T). h.0 ++ xs) c.joined ∙ sym (append_assoc h.0 c.front c.back);
      }

  -- what holds of each item that a line spells holds of each that lines say
  pub says_each : (Q : T → Type 0) → ((k : K) (number : ℕ) (line : List ℕ) (x : T) → g.spells k number line x → Q x) → (ls : List (List ℕ)) (known new : Option K) (n : ℕ) (items : List T) → Says g known n ls items new → All Q items
  says_each Q q [] known new n items h = subst (λ (xs : List T). All Q xs) (sym h.0) (All-nil Q)
  says_each Q q ([] ∷ ls) known new n items h = subst (λ (xs : List T). All Q xs) (sym (h.5 ∙ ap (λ (xs : List T). xs ++ h.1) h.3.0)) (says_each Q q ls h.2 new (n + 1) h.1 h.4)
  says_each Q q ((b ∷ bs) ∷ ls) None new n items h = subst (λ (xs : List T). All Q xs) (sym (h.5 ∙ ap (λ (xs : List T). xs ++ h.1) h.3.1.2)) (says_each Q q ls h.2 new (n + 1) h.1 h.4)
  says_each Q q ((b ∷ bs) ∷ ls) (Some k) new n items h =
      subst (λ (xs : List T). All Q xs) (sym (h.5 ∙ ap (λ (xs : List T). xs ++ h.1) h.3.1.2)) (All-cons Q h.3.1.0 h.1 (q k (n + 1) (b ∷ bs) h.3.1.0 h.3.1.1) (says_each Q q ls h.2 new (n + 1) h.1 h.4))

  module _ (exact : IsExact g) where
    one_said : (known new other : Option K) (number : ℕ) (line : List ℕ) (items more : List T) → LineSays g known number line items new → LineSays g known number line more other → (items ≡ more) × (new ≡ other)
    one_said None new other number line items more h k = (h.2 ∙ sym k.2, h.3 ∙ ap (λ (x : K). Some x) (exact.one_header line h.0 k.0 h.1 k.1) ∙ sym k.3)
    one_said (Some s) new other number line items more h k = (h.2 ∙ ap (λ (x : T). x ∷ []) (exact.one_item s number line h.0 k.0 h.1 k.1) ∙ sym k.2, h.3 ∙ sym k.3)

    one_line : (line : List ℕ) (known new other : Option K) (number : ℕ) (items more : List T) → ReadsLine g known number line items new → ReadsLine g known number line more other → (items ≡ more) × (new ≡ other)
    one_line [] known new other number items more h k = (h.0 ∙ sym k.0, h.1 ∙ sym k.1)
    one_line (b ∷ bs) known new other number items more h k = one_said known new other number (b ∷ bs) items more h.1 k.1

    one_read : (lines : List (List ℕ)) (known new other : Option K) (ended : ℕ) (items more : List T) → Says g known ended lines items new → Says g known ended lines more other → (items ≡ more) × (new ≡ other)
    one_read [] known new other ended items more h k = (h.0 ∙ sym k.0, h.1 ∙ sym k.1)
    one_read (line ∷ lines) known new other ended items more h k =
        let first = one_line line known h.2 k.2 (ended + 1) h.0 k.0 h.3 k.3 in
        let later = one_read lines h.2 new other (ended + 1) h.1 k.1 h.4 (subst (λ (s : Option K). Says g s (ended + 1) lines k.1 other) (sym first.1) k.4) in
        (h.5 ∙ ap (λ (xs : List T). xs ++ h.1) first.0 ∙ ap (λ (xs : List T). k.0 ++ xs) later.0 ∙ sym k.5, later.1)

    none_bad : (known new : Option K) (number : ℕ) (line : List ℕ) (items : List T) (column : ℕ) → LineSays g known number line items new → ¬ BadColumn g known line column
    none_bad None new number line items column h k = exact.good_header line h.0 column h.1 k
    none_bad (Some s) new number line items column h k = exact.good_item s number line h.0 column h.1 k

    line_apart : (line : List ℕ) (file : FileId) (known new : Option K) (number : ℕ) (items : List T) (r : Refusal) → ReadsLine g known number line items new → ¬ RefusesLine g file known number line r
    line_apart [] file known new number items r h k = k.0 refl
    line_apart (b ∷ bs) file known new number items r h k = elim k.1 [
      | inl text ↦ elim (text_to_case file number (b ∷ bs) r text) [
        | inl marked ↦ let m = marked.0 in let u = h.0.0 in cc
        | inr broken ↦ broken.1 h.0.1
      ]
      | inr wrong ↦ none_bad known new number (b ∷ bs) items wrong.1 h.1 wrong.2
    ]

    read_apart : (file : FileId) (known new : Option K) (ended : ℕ) (lines : List (List ℕ)) (items more : List T) (r : Refusal) → Says g known ended lines items new → ¬ Stops g file known ended lines more r
    read_apart file known new ended lines items more r h s =
        let c = says_cut s.before (s.line ∷ s.after) known new ended items (subst (λ (ls : List (List ℕ)). Says g known ended ls items new) s.split h) in
        let same = (one_read s.before known c.mid s.now ended c.front more c.first s.says).1 in
        line_apart s.line file c.mid c.later.2 (ended + length s.before + 1) c.later.0 r c.later.3 (subst (λ (m : Option K). RefusesLine g file m (ended + length s.before + 1) s.line r) (sym same) s.refused)

    pub one_reading : ReadsOnce g
    one_reading = record {
      one = λ known new other ended lines items more h k. one_read lines known new other ended items more h k;
      apart = λ file known new ended lines items more r h s. read_apart file known new ended lines items more r h s;
    }

  -- where nothing is to come but data lines, the items are those of each of them
  pub each_line : (IsItem : ℕ → List ℕ → T → Type 0) (k : K) → ((number : ℕ) (line : List ℕ) (x : T) → HasNoEnd line → IsText line → g.spells k number line x → IsItem number line x)
      → (ls : List (List ℕ)) (n : ℕ) (items : List T) (new : Option K) → All HasNoEnd ls → Says g (Some k) n ls items new → AreEach IsItem n ls items × (new ≡ Some k)
  each_line IsItem k one [] n items new none h = (subst (AreEach IsItem n []) (sym h.0) tt, h.1)
  each_line IsItem k one ([] ∷ ls) n items new none h =
      let rest = each_line IsItem k one ls (n + 1) h.1 new (All-tail HasNoEnd [] ls none) (subst (λ (s : Option K). Says g s (n + 1) ls h.1 new) h.3.1 h.4) in
      (subst (AreEach IsItem (n + 1) ls) (sym (h.5 ∙ ap (λ (xs : List T). xs ++ h.1) h.3.0)) rest.0, rest.1)
  each_line IsItem k one ((b ∷ bs) ∷ ls) n items new none h =
      let first = one (n + 1) (b ∷ bs) h.3.1.0 (All-head HasNoEnd (b ∷ bs) ls none) h.3.0 h.3.1.1 in
      let rest = each_line IsItem k one ls (n + 1) h.1 new (All-tail HasNoEnd (b ∷ bs) ls none) (subst (λ (s : Option K). Says g s (n + 1) ls h.1 new) h.3.1.3 h.4) in
      (subst (AreEach IsItem n ((b ∷ bs) ∷ ls)) (sym (h.5 ∙ ap (λ (xs : List T). xs ++ h.1) h.3.1.2)) (first, rest.0), rest.1)

  -- where a header is due and one is passed, it is the first line with a byte, and the items are those of the data lines after it
  pub are_under : (IsHeader : K → List ℕ → Type 0) (IsItem : K → ℕ → List ℕ → T → Type 0)
      → ((line : List ℕ) (k : K) → HasNoEnd line → IsText line → g.heads line k → IsHeader k line)
      → ((k : K) (number : ℕ) (line : List ℕ) (x : T) → HasNoEnd line → IsText line → g.spells k number line x → IsItem k number line x)
      → (ls : List (List ℕ)) (n : ℕ) (items : List T) (k : K) → All HasNoEnd ls → Says g None n ls items (Some k) → UnderAfter (IsHeader k) (IsItem k) n ls items
  are_under IsHeader IsItem head one [] n items k none h = let e = h.1 in cc
  are_under IsHeader IsItem head one ([] ∷ ls) n items k none h =
      let r = are_under IsHeader IsItem head one ls (n + 1) h.1 k (All-tail HasNoEnd [] ls none) (subst (λ (s : Option K). Says g s (n + 1) ls h.1 (Some k)) h.3.1 h.4) in
      let number : (n + 1) + (length r.before + 1) ≡ n + (length ([] ∷ r.before) + 1) = omega arith in
      let same : h.1 ≡ items = sym (h.5 ∙ ap (λ (xs : List T). xs ++ h.1) h.3.0) in
      record {
        before = [] ∷ r.before;
        header = r.header;
        after = r.after;
        split = ap (λ (ks : List (List ℕ)). [] ∷ ks) r.split;
        none_before = r.none_before;
        some = r.some;
        is_header = r.is_header;
        follows = r.follows;
        each = subst (λ (m : ℕ). AreEach (IsItem k) m r.after items) number (subst (λ (xs : List T). AreEach (IsItem k) ((n + 1) + (length r.before + 1)) r.after xs) same r.each);
      }
  are_under IsHeader IsItem head one ((b ∷ bs) ∷ ls) n items k none h =
      let known = h.3.1.0 in
      let rest = each_line (IsItem known) known (one known) ls (n + 1) h.1 (Some k) (All-tail HasNoEnd (b ∷ bs) ls none) (subst (λ (s : Option K). Says g s (n + 1) ls h.1 (Some k)) h.3.1.3 h.4) in
      let is : known ≡ k = let e = rest.1 in cc in
      let number : n + 1 ≡ n + (length {A = List ℕ} [] + 1) = omega arith in
      let same : h.1 ≡ items = sym (h.5 ∙ ap (λ (xs : List T). xs ++ h.1) h.3.1.2) in
      record {
        before = [];
        header = b ∷ bs;
        after = ls;
        split = refl;
        none_before = refl;
        some = λ e. cc;
        is_header = subst (λ (x : K). IsHeader x (b ∷ bs)) is (head (b ∷ bs) known (All-head HasNoEnd (b ∷ bs) ls none) h.3.0 h.3.1.1);
        follows = refl;
        each = subst (λ (m : ℕ). AreEach (IsItem k) m ls items) number (subst (λ (x : K). AreEach (IsItem x) (n + 1) ls items) is (subst (AreEach (IsItem known) (n + 1) ls) same rest.0));
      }

module _ {S K T : Type 0} (g : Language K T) (takes : Takes S T) (refuses : Refuses S T) (file : FileId) where
  -- lines and then more lines, of which one is refused
  pub stops_on : (before after : List (List ℕ)) (known mid : Option K) (ended : ℕ) (items more : List T) (a b c : S) (r : Refusal) → Says g known ended before items mid → Runs takes file a items b
      → run.Stops g takes refuses file mid (ended + length before) after b more c r → run.Stops g takes refuses file known ended (before ++ after) a (items ++ more) c r
  stops_on before after known mid ended items more a b c r h s k = record {
    before = before ++ k.before;
    line = k.line;
    after = k.after;
    now = k.now;
    split = ap (λ (ls : List (List ℕ)). before ++ ls) k.split ∙ sym (append_assoc before k.before (k.line ∷ k.after));
    says = RunFacts.says_append g before k.before known mid k.now ended items more h k.says;
    runs = RunFacts.runs_append takes file items more a b c s k.runs;
    refused =
        let number : ended + length before + length k.before ≡ ended + length (before ++ k.before) = omega (arith, length-append before k.before) in
        subst (λ (n : ℕ). run.RefusesLine g refuses file k.now c (n + 1) k.line r) number k.refused;
  }

  -- a refusal stands whatever follows
  pub stops_still : (ls after : List (List ℕ)) (known : Option K) (ended : ℕ) (items : List T) (a c : S) (r : Refusal) → run.Stops g takes refuses file known ended ls a items c r → run.Stops g takes refuses file known ended (ls ++ after) a items c r
  stops_still ls after known ended items a c r k = record {
    before = k.before;
    line = k.line;
    after = k.after ++ after;
    now = k.now;
    split = ap (λ (ks : List (List ℕ)). ks ++ after) k.split ∙ append_assoc k.before (k.line ∷ k.after) after;
    says = k.says;
    runs = k.runs;
    refused = k.refused;
  }

module _ {G K S T : Type 0} (g : Language K T) (takes : Takes S T) (file : FileId) (grammar : G) (start : S) where
  -- before the first byte
  pub fed_none : Fed g takes file grammar start [] (at_begin file grammar g.begins) start
  fed_none = record {
    items = [];
    file_is = refl;
    grammar_is = refl;
    fed = refl;
    ended = refl;
    begun = refl;
    says = (refl, refl);
    runs = refl;
    goes_on = refl;
    good = refl;
  }

  module _ (text : List ℕ) (old : Reader G K) (had : S) (f : Fed g takes file grammar start text old had) where
    at_text : (ls : List (List ℕ)) (items : List T) (new : Option K) → Says g old.known old.ended ls items new → Says g old.known (0 + length (whole_lines text)) ls items new
    at_text ls items new h = let e : old.ended ≡ 0 + length (whole_lines text) = f.ended ∙ sym (zero-add (length (whole_lines text))) in subst (λ (n : ℕ). Says g old.known n ls items new) e h

    -- past a piece more
    pub fed_step : (piece : List ℕ) (new : Reader G K) (has : S) → HasRead g takes (new_lines old piece) old had new has → new ≡ fed_more old piece new.known → Fed g takes file grammar start (text ++ piece) new has
    fed_step piece new has h e =
        let cut = cut_any text piece in
        let begun : old.begun ++ piece ≡ rest_of text ++ piece = ap (λ (t : List ℕ). t ++ piece) f.begun in
        record {
          items = f.items ++ h.items;
          file_is = ap (λ (r : Reader G K). r.file) e ∙ f.file_is;
          grammar_is = ap (λ (r : Reader G K). r.grammar) e ∙ f.grammar_is;
          fed = ap (λ (r : Reader G K). r.fed) e ∙ ap (λ (n : ℕ). n + length piece) f.fed ∙ sym (length-append text piece);
          ended =
              let n : new.ended ≡ old.ended + length (whole_lines (old.begun ++ piece)) = ap (λ (r : Reader G K). r.ended) e in
              let was = f.ended in
              omega (arith, n, was, ap (λ (t : List ℕ). length (whole_lines t)) begun, ap length cut.0, length-append (whole_lines text) (whole_lines (rest_of text ++ piece)));
          begun = ap (λ (r : Reader G K). r.begun) e ∙ ap rest_of begun ∙ sym cut.1;
          says =
              subst (λ (ls : List (List ℕ)). Says g g.begins 0 ls (f.items ++ h.items) new.known) (sym cut.0)
              (RunFacts.says_append g (whole_lines text) (whole_lines (rest_of text ++ piece)) g.begins old.known new.known 0 f.items h.items f.says
              (at_text (whole_lines (rest_of text ++ piece)) h.items new.known (subst (λ (t : List ℕ). Says g old.known old.ended (whole_lines t) h.items new.known) begun h.says)));
          runs = RunFacts.runs_append takes file f.items h.items start had has f.runs (subst (λ (x : FileId). Runs takes x had h.items has) f.file_is h.runs);
          goes_on = ap (λ (r : Reader G K). r.over) e ∙ f.goes_on;
          good = ap (λ (r : Reader G K). r.fault) e ∙ f.good;
        }

    module _ (refuses : Refuses S T) where
      -- the stop at a line of those that follow is one of the whole file
      stopped_on : (ls after : List (List ℕ)) (all : List (List ℕ)) (items : List T) (mid : S) (r : Refusal) → all ≡ whole_lines text ++ (ls ++ after)
          → run.Stops g takes refuses old.file old.known old.ended ls had items mid r → run.Stops g takes refuses file g.begins 0 all start (f.items ++ items) mid r
      stopped_on ls after all items mid r e k =
          let number : old.ended ≡ 0 + length (whole_lines text) = f.ended ∙ sym (zero-add (length (whole_lines text))) in
          let moved = subst (λ (x : FileId). run.Stops g takes refuses x old.known (0 + length (whole_lines text)) ls had items mid r) f.file_is (subst (λ (n : ℕ). run.Stops g takes refuses old.file old.known n ls had items mid r) number k) in
          subst (λ (ks : List (List ℕ)). run.Stops g takes refuses file g.begins 0 ks start (f.items ++ items) mid r) (sym e)
          (stops_on g takes refuses file (whole_lines text) (ls ++ after) g.begins old.known 0 f.items items start had mid r f.says f.runs (stops_still g takes refuses file ls after old.known (0 + length (whole_lines text)) items had mid r moved))

      -- a stop at a line of the next piece is one of the lines that are ended by then
      pub fed_stopped : (piece : List ℕ) (items : List T) (mid : S) (r : Refusal) → run.Stops g takes refuses old.file old.known old.ended (new_lines old piece) had items mid r
          → run.Stops g takes refuses file g.begins 0 (whole_lines (text ++ piece)) start (f.items ++ items) mid r
      fed_stopped piece items mid r k =
          let begun : old.begun ++ piece ≡ rest_of text ++ piece = ap (λ (t : List ℕ). t ++ piece) f.begun in
          let all : whole_lines (text ++ piece) ≡ whole_lines text ++ (new_lines old piece ++ []) =
          (cut_any text piece).0 ∙ ap (λ (ls : List (List ℕ)). whole_lines text ++ ls) (ap whole_lines (sym begun) ∙ sym (append-nil (new_lines old piece))) in
          stopped_on (new_lines old piece) [] (whole_lines (text ++ piece)) items mid r all k

      last : lines text ≡ whole_lines text ++ (left_lines old ++ [])
      last = lines_whole text ∙ ap (λ (ls : List (List ℕ)). whole_lines text ++ ls) (ap last_lines (sym f.begun) ∙ sym (append-nil (left_lines old)))

      -- a stop at the last line
      pub fed_stopped_last : (items : List T) (mid : S) (r : Refusal) → run.Stops g takes refuses old.file old.known old.ended (left_lines old) had items mid r → run.Stops g takes refuses file g.begins 0 (lines text) start (f.items ++ items) mid r
      fed_stopped_last items mid r k = stopped_on (left_lines old) [] (lines text) items mid r last k

    -- what the whole file says
    pub fed_whole : (items : List T) (new : Option K) → Says g old.known old.ended (left_lines old) items new → Says g g.begins 0 (lines text) (f.items ++ items) new
    fed_whole items new h =
        let all : lines text ≡ whole_lines text ++ left_lines old = lines_whole text ∙ ap (λ (ls : List (List ℕ)). whole_lines text ++ ls) (ap last_lines (sym f.begun)) in
        subst (λ (ks : List (List ℕ)). Says g g.begins 0 ks (f.items ++ items) new) (sym all)
        (RunFacts.says_append g (whole_lines text) (left_lines old) g.begins old.known new 0 f.items items f.says (at_text (left_lines old) items new h))

    pub fed_runs : (items : List T) (has : S) → Runs takes old.file had items has → Runs takes file start (f.items ++ items) has
    fed_runs items has h = RunFacts.runs_append takes file f.items items start had has f.runs (subst (λ (x : FileId). Runs takes x had items has) f.file_is h)

    -- a refusal at the end of the file
    pub fed_ends_bad : (ends : S → FileId → Option Refusal) (items : List T) (mid : S) (r : Refusal) → EndsBad g takes ends old.file old.known old.ended (left_lines old) had items mid r
        → EndsBad g takes ends file g.begins 0 (lines text) start (f.items ++ items) mid r
    fed_ends_bad ends items mid r k = record {
      now = k.now;
      says = fed_whole items k.now k.says;
      runs = fed_runs items mid k.runs;
      refused = subst (λ (x : FileId). end_fault x k.now (ends mid x) ≡ Some r) f.file_is k.refused;
    }

-- each state of a sink is seen as another by `view`, and what the sink does is seen as what those others do
pub record Seen {S Z T : Type 0} (view : S → Z) (takes : Takes S T) (refuses : Refuses S T) (same : S → S → Type 0) (ends : S → FileId → Option Refusal)
    (takes_so : Takes Z T) (refuses_so : Refuses Z T) (same_so : Z → Z → Type 0) (ends_so : Z → FileId → Option Refusal) : Type 0 where
  pub step : (old new : S) (file : FileId) (x : T) → takes old file x new → takes_so (view old) file x (view new)
  pub bad : (old : S) (file : FileId) (x : T) (r : Refusal) → refuses old file x r → refuses_so (view old) file x r
  pub left : (old new : S) → same old new → same_so (view old) (view new)
  pub over : (s : S) (file : FileId) → ends_so (view s) file ≡ ends s file

module _ {S Z K T : Type 0} (g : Language K T) (view : S → Z) (takes : Takes S T) (refuses : Refuses S T) (same : S → S → Type 0) (ends : S → FileId → Option Refusal)
    (takes_so : Takes Z T) (refuses_so : Refuses Z T) (same_so : Z → Z → Type 0) (ends_so : Z → FileId → Option Refusal)
    (seen : Seen view takes refuses same ends takes_so refuses_so same_so ends_so) where
  -- items that it takes
  pub runs_seen : (file : FileId) (xs : List T) (a b : S) → Runs takes file a xs b → Runs takes_so file (view a) xs (view b)
  runs_seen file [] a b h = ap view h
  runs_seen file (x ∷ xs) a b h = (view h.0, seen.step a h.0 file x h.1, runs_seen file xs h.0 b h.2)

  as_seen : (file : FileId) (known : Option K) (s : S) (number : ℕ) (line : List ℕ) (r : Refusal) → run.RefusesAs g refuses file known s number line r → run.RefusesAs g refuses_so file known (view s) number line r
  as_seen file None s number line r h = h
  as_seen file (Some k) s number line r h = elim h [ inl bad ↦ inl bad | inr w ↦ inr (w.0, w.1, seen.bad s file w.0 r w.2) ]

  line_seen : (file : FileId) (known : Option K) (s : S) (number : ℕ) (line : List ℕ) (r : Refusal) → run.RefusesLine g refuses file known s number line r → run.RefusesLine g refuses_so file known (view s) number line r
  line_seen file known s number line r h = (h.0, elim h.1 [ inl bytes ↦ inl bytes | inr bad ↦ inr (bad.0, as_seen file known s number line r bad.1) ])

  -- a first line that is refused
  pub stops_seen : (file : FileId) (known : Option K) (ended : ℕ) (ls : List (List ℕ)) (a : S) (items : List T) (b : S) (r : Refusal) → run.Stops g takes refuses file known ended ls a items b r
      → run.Stops g takes_so refuses_so file known ended ls (view a) items (view b) r
  stops_seen file known ended ls a items b r h = record {
    before = h.before;
    line = h.line;
    after = h.after;
    now = h.now;
    split = h.split;
    says = h.says;
    runs = runs_seen file items a b h.runs;
    refused = line_seen file h.now b (ended + length h.before + 1) h.line r h.refused;
  }

  -- a first few lines
  pub some_seen : (file : FileId) (known : Option K) (ended : ℕ) (ls : List (List ℕ)) (a : S) (items : List T) (b : S) → ReadsSome g takes file known ended ls a items b → ReadsSome g takes_so file known ended ls (view a) items (view b)
  some_seen file known ended ls a items b h = record { before = h.before; after = h.after; now = h.now; split = h.split; says = h.says; runs = runs_seen file items a b h.runs }

  -- a refusal at the end of the file
  pub end_seen : (file : FileId) (known : Option K) (ended : ℕ) (ls : List (List ℕ)) (a : S) (items : List T) (b : S) (r : Refusal) → EndsBad g takes ends file known ended ls a items b r
      → EndsBad g takes_so ends_so file known ended ls (view a) items (view b) r
  end_seen file known ended ls a items b r h = record {
    now = h.now;
    says = h.says;
    runs = runs_seen file items a b h.runs;
    refused = subst (λ (own : Option Refusal). end_fault file h.now own ≡ Some r) (sym (seen.over b file)) h.refused;
  }

  module _ {G : Type 0} (ls : List (List ℕ)) (old : Reader G K) (had : S) (new : Reader G K) (has : S) where
    pub has_read_seen : HasRead g takes ls old had new has → HasRead g takes_so ls old (view had) new (view has)
    has_read_seen h = record { items = h.items; says = h.says; runs = runs_seen old.file h.items had has h.runs }

    pub has_stopped_seen : (r : Refusal) → HasStopped g takes refuses same ls old had new has r → HasStopped g takes_so refuses_so same_so ls old (view had) new (view has) r
    has_stopped_seen r h = record {
      items = h.items;
      mid = view h.mid;
      stops = stops_seen old.file old.known old.ended ls had h.items h.mid r h.stops;
      left = seen.left h.mid has h.left;
      kept = h.kept;
    }

    pub has_stopped_at_end_seen : (r : Refusal) → HasStoppedAtEnd g takes refuses same ends ls old had new has r → HasStoppedAtEnd g takes_so refuses_so same_so ends_so ls old (view had) new (view has) r
    has_stopped_at_end_seen r h = record {
      items = h.items;
      mid = view h.mid;
      stops = elim h.stops [
        | inl stops ↦ inl (stops_seen old.file old.known old.ended ls had h.items h.mid r stops)
        | inr bad ↦ inr (end_seen old.file old.known old.ended ls had h.items h.mid r bad)
      ];
      left = seen.left h.mid has h.left;
      kept = h.kept;
    }

    pub has_run_out_seen : HasRunOut g takes same ls old had new has → HasRunOut g takes_so same_so ls old (view had) new (view has)
    has_run_out_seen h = record {
      items = h.items;
      mid = view h.mid;
      reads = some_seen old.file old.known old.ended ls had h.items h.mid h.reads;
      left = seen.left h.mid has h.left;
      kept = h.kept;
    }

module _ {S T : Type 0} (takes : Takes S T) (file : FileId) where
  -- items that are taken, cut in two
  pub runs_cut : (xs ys : List T) (a c : S) → Runs takes file a (xs ++ ys) c → (b : S) × Runs takes file a xs b × Runs takes file b ys c
  runs_cut [] ys a c h = (a, refl, h)
  runs_cut (x ∷ xs) ys a c h = let k = runs_cut xs ys h.0 c h.2 in (k.0, (h.0, h.1, k.1), k.2)

module _ {S K T : Type 0} (g : Language K T) (exact : IsExact g) (takes : Takes S T) (refuses : Refuses S T) (once : TakesOnce takes refuses) where
  one_run : (file : FileId) (xs : List T) (a b c : S) → Runs takes file a xs b → Runs takes file a xs c → b ≡ c
  one_run file [] a b c h k = h ∙ sym k
  one_run file (x ∷ xs) a b c h k = one_run file xs h.0 b c h.2 (subst (λ (s : S). Runs takes file s xs c) (once.one a k.0 h.0 file x k.1 h.1) k.2)

  said_on : (file : FileId) (known new : Option K) (number : ℕ) (line : List ℕ) (items : List T) (a b : S) (r : Refusal) → LineSays g known number line items new → Runs takes file a items b → ¬ run.RefusesAs g refuses file known a number line r
  said_on file None new number line items a b r h t k = exact.good_header line h.0 k.0 h.1 k.1
  said_on file (Some s) new number line items a b r h t k = elim k [
    | inl bad ↦ exact.good_item s number line h.0 bad.0 h.1 bad.1
    | inr w ↦
        let same : w.0 ≡ h.0 = exact.one_item s number line w.0 h.0 w.1 h.1 in
        let one : Runs takes file a (h.0 ∷ []) b = subst (λ (xs : List T). Runs takes file a xs b) h.2 t in
        once.apart a one.0 file h.0 r one.1 (subst (λ (x : T). refuses a file x r) same w.2)
  ]

  line_on : (line : List ℕ) (file : FileId) (known new : Option K) (number : ℕ) (items : List T) (a b : S) (r : Refusal) → ReadsLine g known number line items new → Runs takes file a items b → ¬ run.RefusesLine g refuses file known a number line r
  line_on [] file known new number items a b r h t k = k.0 refl
  line_on (c ∷ cs) file known new number items a b r h t k = elim k.1 [
    | inl text ↦ elim (text_to_case file number (c ∷ cs) r text) [
      | inl marked ↦ let m = marked.0 in let u = h.0.0 in cc
      | inr broken ↦ broken.1 h.0.1
    ]
    | inr wrong ↦ said_on file known new number (c ∷ cs) items a b r h.1 t wrong.1
  ]

  -- lines whose items are taken aren't stopped
  pub reads_on : ReadsOn g takes refuses
  reads_on file known new ended ls items more start has mid r h t s =
      let number = ended + length s.before + 1 in
      let c = says_cut g s.before (s.line ∷ s.after) known new ended items (subst (λ (ks : List (List ℕ)). Says g known ended ks items new) s.split h) in
      let same = one_read g exact s.before known c.mid s.now ended c.front more c.first s.says in
      let cut = runs_cut takes file c.front c.back start has (subst (λ (xs : List T). Runs takes file start xs has) c.joined t) in
      let there : mid ≡ cut.0 = one_run file c.front start mid cut.0 (subst (λ (xs : List T). Runs takes file start xs mid) (sym same.0) s.runs) cut.1 in
      let first = runs_cut takes file c.later.0 c.later.1 cut.0 has (subst (λ (xs : List T). Runs takes file cut.0 xs has) c.later.5 cut.2) in
      let refused = subst (λ (z : S). run.RefusesLine g refuses file s.now z number s.line r) there s.refused in
      line_on s.line file c.mid c.later.2 number c.later.0 cut.0 first.0 r c.later.3 first.1 (subst (λ (m : Option K). run.RefusesLine g refuses file m cut.0 number s.line r) (sym same.1) refused)

-- what a look at a place finds
pub found_there : (o : Option (Bor (List ℕ))) (x : Bor (List ℕ)) (p : Option (List ℕ)) → option_map (λ (s : Bor (List ℕ)). s.now) o ≡ p → o ≡ Some x → p ≡ Some x.now
found_there o x p e is = sym e ∙ ap (option_map (λ (s : Bor (List ℕ)). s.now)) is

-- and one that finds nothing
pub none_there : (o : Option (Bor (List ℕ))) (p : Option (List ℕ)) → option_map (λ (s : Bor (List ℕ)). s.now) o ≡ p → o ≡ None → p ≡ None
none_there o p e is = sym e ∙ ap (option_map (λ (s : Bor (List ℕ)). s.now)) is

-- there is a field at each place below the length
pub some_field : (xs : List (List ℕ)) (i : ℕ) → i < length xs → field_at xs i ≡ None → ⊥
unfolding field_at
some_field [] i l e = absurd (omega (arith, l))
some_field (x ∷ xs) zero l e = cc
some_field (x ∷ xs) (suc i) l e = some_field xs i (omega (arith, l)) e
