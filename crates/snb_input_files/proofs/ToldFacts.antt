-- What a read tells of a file.
use Rattle.std.proofs.Common.{◌≡◌, ◌≢◌, ◌∙◌, ℕ, ◌+◌, ◌≤◌, List, [], ◌∷◌, ◌++◌, length, take, drop, Option, Some, None, refl, sym, ap, subst, arith, length-append, length-take}
use Rattle.std.specs.Option.{IfSome}
use Rattle.std.proofs.lemmas.List.{take-append-drop, take_all}
use Rattle.std.proofs.Math.Seq.{take-add}
use Rattle.snb_base.specs.Shelf.{Files, IsPiece}
use Rattle.snb_input_files.specs.Loading.{IsTold}
use Rattle.snb_input_files.specs.Pieces.{IsBegun, IsMore}

-- one fact of what there is
pub if_some : {A : Type 0} (o : Option A) (F G : A → Type 0) → ((a : A) → F a → G a) → IfSome o F → IfSome o G
if_some None F G more p = p
if_some (Some a) F G more p = more a p

-- these are the first bytes of the file, where the shelf tells what it holds
abbrev pub IsToldBegun : Option Files → List ℕ → List ℕ → Type 0
IsToldBegun contents name bytes = IfSome contents (λ files. IsBegun files name bytes)

-- before anything is read
pub told_nil : (contents : Option Files) (name : List ℕ) → IsToldBegun contents name []
told_nil None name = tt
told_nil (Some files) name = record { begins = λ file h. refl; held = λ n. absurd (n refl) }

some_taken : (count : ℕ) (buffer : List ℕ) → count ≤ length buffer → count ≢ 0 → take count buffer ≢ []
some_taken count buffer fits some e = let l : length (take count buffer) ≡ 0 = ap length e in let n : count ≡ 0 = omega (arith, l, fits, length-take count buffer) in some n

begun_more : (files : Files) (name text buffer : List ℕ) (count : ℕ) → count ≤ length buffer → (file : List ℕ) × (files name ≡ Some file) × IsPiece file (length text) count buffer → IsBegun files name text → IsBegun files name (text ++ take count buffer)
begun_more files name text buffer count fits r b = record {
  begins = λ file h.
      let same : r.0 ≡ file = same_file r.0 file (sym r.1 ∙ h) in
      let size : length text + count ≡ length (text ++ take count buffer) = omega (arith, length-append text (take count buffer), length-take count buffer) in
      let cut : take count buffer ≡ take count (drop (length text) file) = subst (λ (f : List ℕ). take count buffer ≡ take count (drop (length text) f)) same r.2.bytes in
      (λ i. b.begins file h i ++ cut i) ∙ sym (take-add (length text) count file) ∙ ap (λ (n : ℕ). take n file) size;
  held = λ n. (r.0, r.1);
}
  where
    same_file : (x y : List ℕ) → Some x ≡ Some y → x ≡ y
    same_file x y e = cc

-- a piece more
pub told_more : (contents : Option Files) (name buffer : List ℕ) (at count : ℕ) → count ≤ length buffer → count ≢ 0 → IfSome contents (λ files. (file : List ℕ) × (files name ≡ Some file) × IsPiece file at count buffer)
    → (text : List ℕ) → length text ≡ at → IsMore contents name text (take count buffer)
told_more contents name buffer at count fits some told text here = (
  some_taken count buffer fits some,
  if_some contents (λ files. (file : List ℕ) × (files name ≡ Some file) × IsPiece file at count buffer) (λ files. IsBegun files name text → IsBegun files name (text ++ take count buffer))
      (λ files r. begun_more files name text buffer count fits (r.0, r.1, subst (λ (n : ℕ). IsPiece r.0 n count buffer) (sym here) r.2)) told,
)

-- the end of the file
pub told_end : (contents : Option Files) (name buffer : List ℕ) (at count : ℕ) → count ≡ 0 → IfSome contents (λ files. (file : List ℕ) × (files name ≡ Some file) × IsPiece file at count buffer) → (text : List ℕ) → length text ≡ at
    → IfSome contents (λ files. IsBegun files name text → files name ≡ Some text)
told_end contents name buffer at count none told text here =
    if_some contents (λ files. (file : List ℕ) × (files name ≡ Some file) × IsPiece file at count buffer) (λ files. IsBegun files name text → files name ≡ Some text)
    (λ files r b. r.1 ∙ ap Some (sym (b.begins r.0 r.1 ∙ take_all (length text) r.0 (let e = r.2.ends none in omega (arith, e, here))))) told

-- the file of which bytes were read, and what follows them: where nothing is told, nothing follows
pub record Found (contents : Option Files) (name text : List ℕ) : Type 0 where
  pub rest : List ℕ
  pub told : IsTold contents name (Some (text ++ rest))

pub found : (contents : Option Files) (name text : List ℕ) → text ≢ [] → IsToldBegun contents name text → Found contents name text
found None name text some b = record { rest = []; told = tt }
found (Some files) name text some b =
    let h = b.held some in
    record {
      rest = drop (length text) h.0;
      told = h.1 ∙ ap Some (sym (ap (λ (xs : List ℕ). xs ++ drop (length text) h.0) (b.begins h.0 h.1) ∙ take-append-drop (length text) h.0));
    }

-- a text and some bytes are some bytes
pub not_nothing : (text piece : List ℕ) → piece ≢ [] → text ++ piece ≢ []
not_nothing [] piece some e = some e
not_nothing (x ∷ text) piece some e = cc
