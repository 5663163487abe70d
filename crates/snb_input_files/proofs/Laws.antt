-- What other crates may cite of this one: facts about checks and then more checks, of data lines, and of names that may still be asked for.
use Rattle.std.proofs.Common.{List, [], ◌∷◌, ◌++◌, inl, inr}
use Rattle.snb_schema.specs.declared.refusal.Refusal.{Refusal}
use Rattle.snb_base.specs.FirstOf.{FirstOf, NoneOf}
pub use Rattle.snb_input_files.proofs.LawFacts.{file_one, first_some}
pub use Rattle.snb_input_files.proofs.NameFacts.{of_back, of_front, still_allows, still_asked}
pub use Rattle.snb_input_files.proofs.Taking.{says_count, says_knows, says_one}

-- none refuses, and then none
pub none_append : (cs ds : List {1} (Refusal → Type 0)) → NoneOf cs → NoneOf ds → NoneOf (cs ++ ds)
none_append [] ds p q = q
none_append (A ∷ cs) ds p q = (p.0, none_append cs ds p.1 q)

-- none refuses, and then one does
pub first_later : (cs ds : List {1} (Refusal → Type 0)) (r : Refusal) → NoneOf cs → FirstOf ds r → FirstOf (cs ++ ds) r
first_later [] ds r p q = q
first_later (A ∷ cs) ds r p q = inr (p.0, first_later cs ds r p.1 q)

-- one refuses, whatever follows
pub first_anyway : (cs ds : List {1} (Refusal → Type 0)) (r : Refusal) → FirstOf cs r → FirstOf (cs ++ ds) r
first_anyway [] ds r p = absurd p
first_anyway (A ∷ cs) ds r (inl p) = inl p
first_anyway (A ∷ cs) ds r (inr p) = inr (p.0, first_anyway cs ds r p.1)
