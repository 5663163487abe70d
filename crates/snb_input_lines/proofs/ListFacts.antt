-- What a list has that items are appended to.
use Rattle.std.proofs.Common.{◌≡◌, ◌++◌, ◌∷◌, ◌∙◌, [], ℕ, List, sym, ap, inl, inr, append_assoc, append-nil, Result, Ok, Err, Option, Some, None}
use Rattle.snb_schema.specs.Faults.{OnBad}
use Rattle.snb_schema.specs.declared.fault.Fault.{Fault}
use Rattle.snb_schema.specs.declared.fault.Fault.TheVariants.{Bad, Memory}
use Rattle.snb_schema.specs.declared.file.FileId.{FileId}
use Rattle.snb_schema.specs.declared.refusal.Refusal.{Refusal}
use Rattle.snb_schema.specs.declared.refusal.Refusal.TheVariants.{BadLine}
use Rattle.snb_input_lines.specs.Feeding.{HasRead, HasRunOut, HasStopped, HasStoppedAtEnd, OnMemory, Reader}
use Rattle.snb_input_lines.specs.Language.{Language}
use Rattle.snb_input_lines.specs.Lists.{BadColumn, HasAppended, HasAppendedSome, HasStoppedAfter, HasStoppedAfterAll, LacksHeader}
use Rattle.snb_input_lines.specs.Lists as lists
use Rattle.snb_input_lines.specs.Reading.{RefusesAs, RefusesLine, Says, Stops, end_fault}
use Rattle.snb_input_lines.specs.Sinks.{Refuses, Runs, Takes}

-- a fact of a refusal, and what follows of it
pub on_bad_weaker : {A : Type 0} (r : Result A Fault) (P Q : Refusal → Type 0) → ((q : Refusal) → P q → Q q) → OnBad r P → OnBad r Q
on_bad_weaker (Ok a) P Q f h = tt
on_bad_weaker (Err (Bad q)) P Q f h = f q h
on_bad_weaker (Err Memory) P Q f h = tt

-- a fact of want of memory, and what follows of it
pub on_memory_weaker : {A : Type 0} (r : Result A Fault) (P Q : Type 0) → (P → Q) → OnMemory r P → OnMemory r Q
on_memory_weaker (Ok a) P Q f h = tt
on_memory_weaker (Err (Bad q)) P Q f h = tt
on_memory_weaker (Err Memory) P Q f h = f h

-- an item goes to the end of the list
abbrev pub Appends : {V T : Type 0} → (V → List T) → Takes V T
Appends items_of old file item new = items_of new ≡ items_of old ++ item ∷ []

abbrev pub RefusesNone : (V T : Type 0) → Refuses V T
RefusesNone V T old file item r = ⊥

abbrev pub IsSameList : {V T : Type 0} → (V → List T) → V → V → Type 0
IsSameList items_of old new = items_of new ≡ items_of old

abbrev pub never_ends : (V : Type 0) → V → FileId → Option Refusal
never_ends V old file = None

module _ {V T : Type 0} (items_of : V → List T) where
  pub runs_appended : (file : FileId) (xs : List T) (a b : V) → Runs (Appends items_of) file a xs b → items_of b ≡ items_of a ++ xs
  runs_appended file [] a b h = ap items_of h ∙ sym (append-nil (items_of a))
  runs_appended file (x ∷ xs) a b h = runs_appended file xs h.0 b h.2 ∙ ap (λ (l : List T). l ++ xs) h.1 ∙ append_assoc (items_of a) (x ∷ []) xs

module _ {V K T : Type 0} (items_of : V → List T) (g : Language K T) where
  plain_as : (file : FileId) (known : Option K) (s : V) (number : ℕ) (line : List ℕ) (r : Refusal) → RefusesAs g (RefusesNone V T) file known s number line r
      → (column : ℕ) × BadColumn g known line column × (r ≡ BadLine file number column)
  plain_as file None s number line r h = h
  plain_as file (Some k) s number line r h = elim h [ inl bad ↦ bad | inr wrong ↦ absurd wrong.2 ]

  plain_line : (file : FileId) (known : Option K) (s : V) (number : ℕ) (line : List ℕ) (r : Refusal) → RefusesLine g (RefusesNone V T) file known s number line r → lists.RefusesLine g file known number line r
  plain_line file known s number line r h = (h.0, elim h.1 [ inl bytes ↦ inl bytes | inr bad ↦ let p = plain_as file known s number line r bad.1 in inr (bad.0, p.0, p.1, p.2) ])

  plain_stops : (file : FileId) (known : Option K) (ended : ℕ) (lines : List (List ℕ)) (a : V) (items : List T) (b : V) (r : Refusal) → Stops g (Appends items_of) (RefusesNone V T) file known ended lines a items b r
      → lists.Stops g file known ended lines items r
  plain_stops file known ended lines a items b r h = record {
    before = h.before;
    line = h.line;
    after = h.after;
    now = h.now;
    split = h.split;
    says = h.says;
    refused = plain_line file h.now b _ h.line r h.refused;
  }

  lacks : (file : FileId) (known now : Option K) (ended : ℕ) (lines : List (List ℕ)) (items : List T) (r : Refusal) → Says g known ended lines items now → end_fault file now None ≡ Some r → LacksHeader g file known ended lines items r
  lacks file known None ended lines items r says e = record { says = says; refused = cc }
  lacks file known (Some k) ended lines items r says e = cc

  module _ {G : Type 0} (lines : List (List ℕ)) (old : Reader G K) (had : V) (new : Reader G K) (has : V) where
    pub has_appended : HasRead g (Appends items_of) lines old had new has → HasAppended g lines old (items_of had) new (items_of has)
    has_appended h = record { items = h.items; says = h.says; appended = runs_appended items_of old.file h.items had has h.runs }

    left_as : (file : FileId) (items : List T) (mid : V) → Runs (Appends items_of) file had items mid → IsSameList items_of mid has → items_of has ≡ items_of had ++ items
    left_as file items mid runs left = left ∙ runs_appended items_of file items had mid runs

    pub has_stopped : (r : Refusal) → HasStopped g (Appends items_of) (RefusesNone V T) (IsSameList items_of) lines old had new has r → HasStoppedAfter g lines old (items_of had) new (items_of has) r
    has_stopped r h = record {
      items = h.items;
      stops = plain_stops old.file old.known old.ended lines had h.items h.mid r h.stops;
      appended = left_as old.file h.items h.mid h.stops.runs h.left;
      kept = h.kept;
    }

    pub has_stopped_at_end : (r : Refusal) → HasStoppedAtEnd g (Appends items_of) (RefusesNone V T) (IsSameList items_of) (never_ends V) lines old had new has r
        → HasStoppedAfterAll g lines old (items_of had) new (items_of has) r
    has_stopped_at_end r h = elim h.stops [
      | inl stops ↦ record {
        items = h.items;
        stops = inl (plain_stops old.file old.known old.ended lines had h.items h.mid r stops);
        appended = left_as old.file h.items h.mid stops.runs h.left;
        kept = h.kept;
      }
      | inr bad ↦ record {
        items = h.items;
        stops = inr (lacks old.file old.known bad.now old.ended lines h.items r bad.says bad.refused);
        appended = left_as old.file h.items h.mid bad.runs h.left;
        kept = h.kept;
      }
    ]

    pub has_run_out : HasRunOut g (Appends items_of) (IsSameList items_of) lines old had new has → HasAppendedSome g lines old (items_of had) new (items_of has)
    has_run_out h = record {
      items = h.items;
      says = record { before = h.reads.before; after = h.reads.after; now = h.reads.now; split = h.reads.split; says = h.reads.says };
      appended = left_as old.file h.items h.mid h.reads.runs h.left;
      kept = h.kept;
    }
