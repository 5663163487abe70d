-- What `csv` reads of one line is its fields.
use Rattle.std.proofs.Common.{subst, ◌≡◌, ◌≢◌, ◌==◌, ◌++◌, ◌∷◌, ◌∙◌, ◌<◌, [], ℕ, List, Bool, Option, Some, refl, sym, ap, true, false, append_assoc, inl, inr, suc, length, arith, None, take, drop, ◌-◌}
use Rattle.std.proofs.Math.Seq.{take-length}
use Rattle.std.proofs.lemmas.List.{append-nil}
use Rattle.std.proofs.lemmas.Bool.{cases_Bool, eqb-true, ne_eqb}
use Rattle.std.proofs.lemmas.List.Elements.{All-head, All-nil}
use Rattle.csv.specs.Machine.{Read, next_record}
use Rattle.csv.specs.Reading.{NextIs, ReadRecord, ReadsNext, Ready, is_flexible, pending_of, reader_state, source_of, strip_bom}
use Rattle.csv.specs.declared.parser.Config.{Config}
use Rattle.csv.specs.declared.reader.Reader.{Reader}
use Rattle.csv.specs.declared.parser.State.{State}
use Rattle.csv.specs.declared.parser.State.TheVariants as st
use Rattle.std.specs.List.{onto_first}
use Rattle.snb_schema.specs.Lines.{fields}
use Rattle.snb_input_lines.specs.Bars.{MayStand, PieceChain, Stands, bar_config, bytes_of}
use Rattle.snb_input_lines.specs.Ended.{AnyStands, AreUtf8, IsLeft}
use Rattle.snb_schema.specs.Lines.{HasNoEnd}
use Rattle.snb_base.proofs.Laws.{all_back}

-- bytes in front of the first piece
abbrev onto : List ℕ → List (List ℕ) → List (List ℕ)
onto f [] = f ∷ []
onto f (piece ∷ pieces) = (f ++ piece) ∷ pieces

onto-joined : (f : List ℕ) (b : ℕ) (ps : List (List ℕ)) → onto f (onto_first b ps) ≡ onto (f ++ (b ∷ [])) ps
onto-joined f b [] = refl
onto-joined f b (p ∷ ps) = ap (λ (q : List ℕ). q ∷ ps) (sym (append_assoc f (b ∷ []) p))

onto-nil-joined : (b : ℕ) (ps : List (List ℕ)) → onto [] (onto_first b ps) ≡ onto_first b ps
onto-nil-joined b [] = refl
onto-nil-joined b (p ∷ ps) = refl

onto-nil : (l : List ℕ) → onto [] (fields l) ≡ fields l
onto-nil [] = refl
onto-nil (b ∷ l) = elim (cases_Bool (b == 124)) [ inl e ↦ rw e refl | inr e ↦ rw e (onto-nil-joined b (fields l)) ]

tail-no-end : (c : ℕ) (line : List ℕ) → HasNoEnd (c ∷ line) → HasNoEnd line
tail-no-end c line h k d lt = let more : suc k < length (c ∷ line) = omega arith in h (suc k) d more

head-no-end : (c : ℕ) (line : List ℕ) → HasNoEnd (c ∷ line) → (c == 10) ≡ false
head-no-end c line h = let first : 0 < length (c ∷ line) = omega arith in ne_eqb c 10 (h 0 c first)

-- the start of a field reads as a field
start-same : (fs : List (List ℕ)) (f x : List ℕ) → next_record bar_config st.StartField fs f x ≡ next_record bar_config st.InField fs f x
unfolding next_record
start-same fs f [] = refl
start-same fs f (c ∷ x) = refl

-- a text that ends the record at hand and leaves `rest`
abbrev Ends : List ℕ → List ℕ → Type 0
Ends tail rest = (gs : List (List ℕ)) (g : List ℕ) → next_record bar_config st.InField gs g tail ≡ Some (gs ++ (g ∷ []), st.StartRecord, rest)

ends-text : Ends [] []
unfolding next_record
ends-text gs g = refl

ends-line : (rest : List ℕ) → Ends (10 ∷ rest) rest
unfolding next_record
ends-line rest gs g = refl

-- a line and what comes after it, inside a field
run : (line tail rest : List ℕ) (fs : List (List ℕ)) (f : List ℕ) → HasNoEnd line → Ends tail rest
    → next_record bar_config st.InField fs f (line ++ tail) ≡ Some (fs ++ onto f (fields line), st.StartRecord, rest)
unfolding next_record
run [] tail rest fs f h e = rw (append-nil f) (e fs f)
run (c ∷ line) tail rest fs f h e = elim (cases_Bool (c == 124)) [
  | inl bar ↦
      let step = start-same (fs ++ (f ∷ [])) [] (line ++ tail) ∙ run line tail rest (fs ++ (f ∷ [])) [] (tail-no-end c line h) e in
      let same : (fs ++ (f ∷ [])) ++ onto [] (fields line) ≡ fs ++ ((f ++ []) ∷ fields line) = rw (append-nil f, onto-nil line) (append_assoc fs (f ∷ []) (fields line)) in
      rw bar (step ∙ ap (λ (q : List (List ℕ)). Some (q, st.StartRecord, rest)) same)
  | inr other ↦
      let step = run line tail rest fs (f ++ (c ∷ [])) (tail-no-end c line h) e in
      rw (other, head-no-end c line h, onto-joined f c (fields line)) step
]

-- the start of a record reads as a field, where no line ends there
record-same : (c : ℕ) (x : List ℕ) → (c == 10) ≡ false → next_record bar_config st.StartRecord [] [] (c ∷ x) ≡ next_record bar_config st.InField [] [] (c ∷ x)
unfolding next_record
record-same c x e = rw e refl

next-line : (line tail rest : List ℕ) → line ≢ [] → HasNoEnd line → Ends tail rest
    → next_record bar_config st.StartRecord [] [] (line ++ tail) ≡ Some (fields line, st.StartRecord, rest)
next-line [] tail rest n h e = absurd (n refl)
next-line (c ∷ line) tail rest n h e =
    record-same c (line ++ tail) (head-no-end c line h) ∙ run (c ∷ line) tail rest [] [] h e ∙ ap (λ (q : List (List ℕ)). Some (q, st.StartRecord, rest)) (onto-nil (c ∷ line))

-- a line alone
pub one-line : (line : List ℕ) → line ≢ [] → HasNoEnd line → next_record bar_config st.StartRecord [] [] line ≡ Some (fields line, st.StartRecord, [])
one-line line n h = rw (append-nil line) at (next-line line [] [] n h ends-text)

-- a line, its end and what comes after
pub line-then : (line rest : List ℕ) → line ≢ [] → HasNoEnd line
    → next_record bar_config st.StartRecord [] [] (line ++ (10 ∷ rest)) ≡ Some (fields line, st.StartRecord, rest)
line-then line rest n h = next-line line (10 ∷ rest) rest n h (ends-line rest)

-- an empty line is passed over
pub empty-line : (rest : List ℕ) → next_record bar_config st.StartRecord [] [] (10 ∷ rest) ≡ next_record bar_config st.StartRecord [] [] rest
unfolding next_record
empty-line rest = refl

-- what a read shows, where the next record is known
pub next-is : (o : Option Read) (p : Read) (found : Bool) (f : List (List ℕ)) (s : State) (y : List ℕ) → o ≡ Some p → NextIs o found f s y
    → (found ≡ true) × (f ≡ p.0) × (s ≡ p.1) × (y ≡ p.2)
next-is o p found f s y e n = rw e at n

-- the same, where the bytes after it may be unknown
pub reads-next : (cfg : Config) (a b : State) (xs : List ℕ) (k : Option (List ℕ)) (p : Read) (found : Bool) (f : List (List ℕ))
    → next_record cfg a [] [] xs ≡ Some p → ReadsNext cfg a (Some xs) k found f b
    → (found ≡ true) × (f ≡ p.0) × (b ≡ p.1) × (k ≡ Some p.2)
reads-next cfg a b xs None p found f e r = absurd r
reads-next cfg a b xs (Some ys) p found f e r =
    let n = next-is _ p found f b ys e r in
    (n.0, n.1, n.2, ap Some n.3)

-- a read of a reader that stands before a record
pub takes : (a b : Reader PieceChain) (text : List ℕ) (p : Read) (found : Bool) (f : List (List ℕ))
    → Stands a text → next_record bar_config st.StartRecord [] [] text ≡ Some p
    → ReadRecord bytes_of a b found f
    → (found ≡ true) × (f ≡ p.0) × (reader_state b ≡ p.1) × (source_of bytes_of b ≡ Some p.2)
takes a b text p found f h e r =
    let n = reads-next bar_config st.StartRecord b.state h.left (pending_of (bytes_of b.rdr) b) p found f (h.same ∙ e) (rw (h.config, h.starts, h.source) at r.0) in
    (n.0, n.1, n.2, rw r.1 n.3)

-- and then it stands before the text after that record
pub stands-after : (a b : Reader PieceChain) (text after : List ℕ) (fs : List (List ℕ)) (found : Bool) (f : List (List ℕ))
    → Stands a text → next_record bar_config st.StartRecord [] [] text ≡ Some (fs, st.StartRecord, after)
    → ReadRecord bytes_of a b found f → is_flexible b ≡ is_flexible a → Ready b
    → Stands b after
stands-after a b text after fs found f h e r flexible ready =
    let n = takes a b text (fs, st.StartRecord, after) found f h e r in
    record {
      config = r.2 ∙ h.config;
      plain = r.3 ∙ h.plain;
      any_length = flexible ∙ h.any_length;
      ready = ready;
      starts = n.2;
      left = after;
      source = n.3;
      same = refl;
    }

-- past an empty line a reader stands as it did
pub stands-empty : (s : Reader PieceChain) (rest : List ℕ) → Stands s (10 ∷ rest) → Stands s rest
stands-empty s rest h = record {
  config = h.config;
  plain = h.plain;
  any_length = h.any_length;
  ready = h.ready;
  starts = h.starts;
  left = h.left;
  source = h.source;
  same = h.same ∙ empty-line rest;
}

pub not-empty : (line : List ℕ) → (length line == 0) ≡ false → line ≢ []
not-empty line e n = cc (rw n at e)

pub is-empty : (line : List ℕ) → (length line == 0) ≡ true → line ≡ []
is-empty [] e = refl
is-empty (b ∷ line) e = absurd (omega (arith, eqb-true (length (b ∷ line)) 0 e))

-- what follows a line end
pub rest-of-end : (text rest : List ℕ) → text ≡ 10 ∷ rest → take (length text - 1) (drop 1 text) ≡ rest
rest-of-end text rest e = ap (λ (t : List ℕ). take (length t - 1) (drop 1 t)) e ∙ ap (λ (n : ℕ). take n rest) (one-less rest) ∙ take-length rest
  where
    one-less : (rest : List ℕ) → length (10 ∷ rest) - 1 ≡ length rest
    one-less rest = omega arith

-- a text that begins with a line end begins with no mark
pub end-unmarked : (text : List ℕ) → strip_bom (10 ∷ text) ≡ 10 ∷ text
unfolding strip_bom
end-unmarked [] = refl
end-unmarked (a ∷ []) = refl
end-unmarked (a ∷ b ∷ text) = refl

-- past the fields of a line, or past an empty line, a reader stands before what follows
pub stands-past : (s : Reader PieceChain) (line rest : List ℕ) → line ≡ [] → MayStand s (line ++ 10 ∷ rest) → MayStand s rest
stands-past s line rest n may fresh = stands-empty s rest (subst (λ (l : List ℕ). Stands s (l ++ 10 ∷ rest)) n (may fresh))

-- then the text after it has no first line that is apart
pub rest-left : (reader : Option (Reader PieceChain)) (rest : List ℕ) (known : Bool) → AnyStands reader rest → AreUtf8 known rest → IsLeft reader [] rest known
rest-left reader rest known stands utf8 = record { stands = stands; one_line = All-nil (λ (b : ℕ). b ≢ 10); ends = λ none. absurd (none refl); utf8 = utf8 }

-- where no line is left that is ended, none is apart
pub none-apart : (first rest : List ℕ) → (first ≢ [] → (others : List ℕ) × (rest ≡ 10 ∷ others)) → HasNoEnd (first ++ rest) → rest ≡ first ++ rest
none-apart [] rest ends none = refl
none-apart (b ∷ bs) rest ends none =
    let after = ends (λ e. cc) in
    let back = all_back (λ d. d ≢ 10) (b ∷ bs) (10 ∷ after.0) (subst (λ (t : List ℕ). HasNoEnd ((b ∷ bs) ++ t)) after.1 none) in
    absurd (All-head (λ d. d ≢ 10) 10 after.0 back refl)
