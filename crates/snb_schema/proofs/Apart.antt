-- Names and tables that are one, and faults that are handed on.
use Rattle.std.proofs.Common.{◌≡◌, ◌∙◌, ◌||◌, ◌∷◌, [], ℕ, Bool, true, false, List, Result, Ok, Err, inl, inr, sym, ap, subst, rules}
use Rattle.std.proofs.lemmas.Bool.{cases_Bool}
use Rattle.std.proofs.lemmas.Slice.Eq.{bytes_eq-Decides}
use Rattle.std.specs.List.{AllByRecursion}
use Rattle.std.specs.Str.{bytes_eq}
use Rattle.std.specs.Ordering.{is_eq}
use Rattle.std.specs.Result.{IsErrAnd}
use Rattle.std.specs.declared.cmp.Ordering.TheVariants.{Equal}
use denote.Enum.Bare.{same_true}
use Rattle.snb_schema.specs.contracts.table.TableOrd.TheImpl.Laws.{matches_eq-law}
use Rattle.snb_schema.specs.contracts.table.Table.{the_type as the_table}
use Rattle.snb_schema.specs.declared.query.ReadKind.{ReadKind}
use Rattle.snb_schema.specs.declared.refusal.Refusal.{Refusal}
use Rattle.snb_schema.specs.declared.fault.Fault.{Fault}
use Rattle.snb_schema.specs.declared.fault.Fault.TheVariants.{Bad, Memory}
use Rattle.snb_schema.specs.declared.table.Table.{Table}
use Rattle.snb_schema.specs.Faults.{OnBad}
use Rattle.snb_schema.specs.ReadKinds.{every_read, read_word}
use Rattle.snb_schema.specs.TableOrder.{table_order}

-- tables that compare alike are one
pub table_exact : (t u : Table) → table_order t u ≡ Equal → t ≡ u
table_exact t u e = same_true the_table tt t u (matches_eq-law t u ∙ ap is_eq e)

-- a word names one kind
pub one_kind : (a b : ReadKind) → read_word a ≡ read_word b → a ≡ b
one_kind a b e = search rules

-- one of the kinds has this word
is_named : List ReadKind → List ℕ → Bool
is_named [] word = false
is_named (kind ∷ kinds) word = bytes_eq (read_word kind) word || is_named kinds word

named_of : (P : ReadKind → Type 0) (kinds : List ReadKind) (kind : ReadKind) → is_named kinds (read_word kind) ≡ true → AllByRecursion P kinds → P kind
unfolding is_named
named_of P [] kind named all = absurd cc
named_of P (first ∷ kinds) kind named all = elim (cases_Bool (bytes_eq (read_word first) (read_word kind))) [
  | inl here ↦ subst P (one_kind first kind ((bytes_eq-Decides (read_word first) (read_word kind)).0 here)) all.0
  | inr other ↦ named_of P kinds kind (sym (ap (λ (b : Bool). b || is_named kinds (read_word kind)) other) ∙ named) all.1
]

all_named : (kind : ReadKind) → is_named every_read (read_word kind) ≡ true
unfolding is_named
all_named kind = search rules

-- what holds of each of all reads holds of any
pub each_read : (P : ReadKind → Type 0) → AllByRecursion P every_read → (kind : ReadKind) → P kind
each_read P all kind = named_of P every_read kind (all_named kind) all

-- a fact of the refusal that a call passes on
pub passed_on : (given : Result (Unit {0}) Fault) (fault : Fault) (P Q : Refusal → Type 0) → IsErrAnd given (λ e. e ≡ fault) → OnBad {A = Unit {0}} (Err fault) P → ((r : Refusal) → P r → Q r) → OnBad given Q
passed_on (Ok a) fault P Q same h more = tt
passed_on (Err Memory) fault P Q same h more = tt
passed_on (Err (Bad r)) fault P Q same h more = more r (subst (λ (f : Fault). OnBad {A = Unit {0}} (Err f) P) (sym same) h)
