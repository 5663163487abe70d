-- Facts on the file of a log.
use Rattle.std.proofs.Common.{◌≡◌, ◌∙◌, ◌≤◌, ◌+◌, ◌++◌, ◌∷◌, ℕ, List, [], All, Option, Some, None, Ok, Err, drop, refl, sym, ap, subst, inl, inr, arith}
use Rattle.std.proofs.lemmas.List.Elements.{All-append, All-cons, All-nil}
use Rattle.snb_base.specs.Shelf.{Files}
use Rattle.snb_history.specs.declared.event.Event.{Event}
use Rattle.snb_history.specs.declared.event.Event.TheVariants.{Start, Finish, Halt}
use Rattle.snb_history.specs.declared.logged.Header.{Header}
use Rattle.snb_history.specs.declared.logged.Logged.{Logged}
use Rattle.snb_schema.specs.declared.file.FileId.{FileId}
use Rattle.snb_schema.specs.declared.limits.TheConstants.{MAX_AT, MAX_WORKERS}
use Rattle.snb_schema.specs.declared.refusal.Refusal.{Refusal}
use Rattle.snb_schema.specs.declared.refusal.Refusal.TheVariants.{Absent}
use Rattle.snb_history.specs.History.{moment}
use Rattle.snb_schema.specs.Lines.{fields, filled, lines}
use Rattle.snb_input_lines.specs.Language.{Language}
use Rattle.snb_input_lines.specs.Reading.{Says}
use Rattle.snb_input_lines.specs.Sinks.{Hears}
use Rattle.snb_input_files.specs.declared.found.Found.TheVariants as found
use Rattle.snb_input_files.specs.declared.load.Load.{Load}
use Rattle.snb_input_files.specs.declared.load.Load.TheVariants.{Refused, ReadFault, Memory}
use Rattle.snb_input_files.specs.declared.load.Used.{Used}
use Rattle.snb_input_files.specs.Format.{Lawful}
use Rattle.snb_input_files.specs.Loading.{IsKnownAnswer}
use Rattle.snb_input_files.specs.Places.{HasKnown, opening}
use Rattle.snb_input_files.proofs.Laws.{file_one, first_some, says_knows, says_one}
use Rattle.snb_runlog.specs.Columns.{AreWithin, CanBeHeader, event_columns, count_numbers, event_numbers, header_columns, header_numbers, event_kind_of, version_column}
use Rattle.snb_runlog.specs.Laws.{EventOrColumn, HeaderOrColumn, LogIsExact}
use Rattle.snb_runlog.specs.WriteLaws.{WhereCountsAre}
use Rattle.snb_runlog.specs.Lines.{IsHeader, IsLogged, log_file, log_language}
use Rattle.snb_audit_model.specs.declared.log.Log.{Log}
use Rattle.snb_auditor_log.specs.Laws.{LogSaysOne, OneLogRefusal, RefusedOrNot}
use Rattle.snb_audit_model.specs.LogFiles.{HasHeard, IsAuditable, IsLogAnswer, IsLogOf, RefusesEvent, TakesEvent, log_checks, log_format}
use Rattle.snb_runlog.proofs.Laws.{numbers_within}

-- ---- the file_sink of a log

-- a line of a log says one thing at most, and is refused in one way at most
pub log_lawful : LogIsExact → ((fs : List (List ℕ)) → HeaderOrColumn fs) → ((version : ℕ) (fs : List (List ℕ)) → EventOrColumn version fs) → Lawful log_format
log_lawful exact head event = record {
  exact = λ file. exact;
  one_header_column = λ file line a b p q. (head (fields line)).one a b p q;
  one_column = λ file known line a b p q. (event known.version (fields line)).one a b p q;
  one_own = λ file done mine x r q a b. absurd a;
}

pub log_hears : Hears TakesEvent RefusesEvent HasHeard (λ (file : FileId) (done : List (List Logged)) (mine : List Logged) (x : Logged) (r : Refusal). ⊥)
log_hears = record {
  more = λ old new file x done mine h taken. taken ∙ ap (λ (xs : List Logged). xs ++ x ∷ []) h;
  passes = λ old new file x done mine r h taken own. own;
  bad = λ old file x done mine r h wrong. wrong;
}

-- ---- what lines say

-- what holds of each item that a line spells holds of all that lines say
says_all : {K T : Type 0} (g : Language K T) (F : T → Type 0) → ((k : K) (number : ℕ) (line : List ℕ) (x : T) → g.spells k number line x → F x)
    → (ls : List (List ℕ)) (known new : Option K) (n : ℕ) (items : List T) → Says g known n ls items new → All F items
says_all {K} {T} g F each [] known new n items h = subst (λ (xs : List T). All F xs) (sym h.0) (All-nil F)
says_all {K} {T} g F each ([] ∷ ls) known new n items h =
    subst (λ (xs : List T). All F xs) (sym h.5) (All-append F h.0 h.1 (subst (λ (xs : List T). All F xs) (sym h.3.0) (All-nil F)) (says_all g F each ls h.2 new (n + 1) h.1 h.4))
says_all {K} {T} g F each ((b ∷ bs) ∷ ls) None new n items h =
    subst (λ (xs : List T). All F xs) (sym h.5) (All-append F h.0 h.1 (subst (λ (xs : List T). All F xs) (sym h.3.1.2) (All-nil F)) (says_all g F each ls h.2 new (n + 1) h.1 h.4))
says_all {K} {T} g F each ((b ∷ bs) ∷ ls) (Some k) new n items h =
    subst (λ (xs : List T). All F xs) (sym h.5)
    (All-append F h.0 h.1 (subst (λ (xs : List T). All F xs) (sym h.3.1.2) (All-cons F h.3.1.0 [] (each k (n + 1) (b ∷ bs) h.3.1.0 h.3.1.1) (All-nil F))) (says_all g F each ls h.2 new (n + 1) h.1 h.4))

-- an event with such numbers has no moment that is too great
timed_within : (version : ℕ) (e : Event) (o : Option ℕ) → AreWithin (event_columns version (event_kind_of e)) (event_numbers e ++ count_numbers o) → moment e ≤ MAX_AT
timed_within version (Start op worker at) o h = h.2.2.1
timed_within version (Finish op worker at front) o h = h.2.2.1
timed_within version (Halt worker) o h = omega arith

-- nor has one that a line tells
timed : (version : ℕ) (line : List ℕ) (l : Logged) → IsLogged version line l → moment l.event ≤ MAX_AT
timed version line l s = timed_within version l.event l.rows (numbers_within (event_columns version (event_kind_of l.event)) (drop 1 (fields line)) (event_numbers l.event ++ count_numbers l.rows) s.numbers)

-- a header says that there is a worker, and not too many
few_workers : (fs : List (List ℕ)) (head : Header) → IsHeader fs head → (1 ≤ head.workers) × (head.workers ≤ MAX_WORKERS)
few_workers fs head s = (let h : CanBeHeader head = numbers_within (version_column ∷ header_columns head.version) (drop 1 fs) (header_numbers head) s.numbers in (h.2.0, h.2.1))

known_workers : (ls : List (List ℕ)) (head : Header) → HasKnown None log_language.heads ls (Some head) → (1 ≤ head.workers) × (head.workers ≤ MAX_WORKERS)
known_workers [] head e = absurd cc
known_workers (l ∷ ls) head (k, is, e) = few_workers (fields l) head (subst (λ (x : Header). IsHeader (fields l) x) (same k head e) is)
  where
    same : (k head : Header) → Some head ≡ Some k → k ≡ head
    same k head e = cc

-- a log that is told can be audited
auditable : WhereCountsAre → (held : Option (List ℕ)) (log : Log) → IsLogOf held log.header log.logged.items → IsAuditable log
auditable where_counts None log h = absurd h
auditable where_counts (Some bytes) log says =
    let few = known_workers (filled (lines bytes)) log.header (says_knows log_language (lines bytes) None (Some log.header) 0 log.logged.items says) in
    let counts = where_counts bytes log.logged.items log.header says in
    record {
      some_worker = few.0;
      few_workers = few.1;
      timed = says_all log_language (λ l. moment l.event ≤ MAX_AT) (λ k number line x s. timed k.version line x s) (lines bytes) None (Some log.header) 0 log.logged.items says;
      operations = counts.0;
      counted = counts.1;
    }

pub answer_auditable : WhereCountsAre → (contents : Option Files) (name : List ℕ) (log : Log) → IsLogAnswer contents name (Ok log) → IsAuditable log
answer_auditable where_counts contents name log a = auditable where_counts a.0 log a.3

-- ---- the reading of a log

-- nothing was read before a log
abbrev pub nothing : Used
nothing = record { bytes = 0; rows = 0 }

pub log_err : (contents : Option Files) (name : List ℕ) (start : List Logged) (known : Option Header) (load : Load) → IsKnownAnswer log_format HasHeard contents name log_file nothing [] start known (Err load) → IsLogAnswer contents name (Err load)
log_err contents name start known (Refused r) a = (Some a.0, a.1, a.2)
log_err contents name start known ReadFault a = tt
log_err contents name start known Memory a = tt

pub log_absent : (contents : Option Files) (name : List ℕ) (start : List Logged) (known : Option Header) (file_sink : List Logged) → IsKnownAnswer log_format HasHeard contents name log_file nothing [] start known (Ok (found.Absent file_sink))
    → IsLogAnswer contents name (Err (Refused (Absent log_file)))
log_absent contents name start known file_sink a = (None, a.0, inl refl)

pub log_ok : (contents : Option Files) (name : List ℕ) (start : List Logged) (known : Option Header) (head : Header) (file_sink : List Logged) (used : Used) (log : Log)
    → IsKnownAnswer log_format HasHeard contents name log_file nothing [] start known (Ok (found.Whole file_sink used)) → known ≡ Some head → log.header ≡ head → log.logged.items ≡ file_sink → IsLogAnswer contents name (Ok log)
log_ok contents name start known head file_sink used log a e w h =
    let t = a.3.0 in
    let same : head ≡ t.says.0 = same_head known head t.says.0 e a.3.1 in (
      Some a.0,
      a.1,
      t.clean,
      subst (λ (x : Header). IsLogOf (Some a.0) x log.logged.items) (sym (w ∙ same))
          (subst (λ (xs : List Logged). IsLogOf (Some a.0) t.says.0 xs) (sym (h ∙ t.tells)) t.says.1),
    )
  where
    same_head : (o : Option Header) (x y : Header) → o ≡ Some x → o ≡ Some y → x ≡ y
    same_head o x y p q = cc

-- where a file is whole, its header is known
pub some_known : (contents : Option Files) (name : List ℕ) (start : List Logged) (known : Option Header) (file_sink : List Logged) (used : Used) → IsKnownAnswer log_format HasHeard contents name log_file nothing [] start known (Ok (found.Whole file_sink used)) → known ≡ None → ⊥
some_known contents name start known file_sink used a none = none_some known a.3.0.says.0 none a.3.1
  where
    none_some : (o : Option Header) (x : Header) → o ≡ None → o ≡ Some x → ⊥
    none_some o x p q = cc

-- ---- the laws

module _ (lawful : Lawful log_format) where
  pub one_refusal : OneLogRefusal
  one_refusal None r q (inl a) (inl b) = a ∙ sym b
  one_refusal None r q (inl a) (inr b) = absurd b.1
  one_refusal None r q (inr a) b = absurd a.1
  one_refusal (Some bytes) r q a b = file_one log_format lawful (opening log_file 0 0 [] bytes) bytes r q a b

  pub says_one_log : LogSaysOne
  says_one_log None a b g h p q = absurd p
  says_one_log (Some bytes) a b g h p q =
      let one = says_one log_format lawful log_file (lines bytes) g h (Some a) (Some b) p q in
      (same_head a b one.1, one.0)
    where
      same_head : (x y : Header) → Some x ≡ Some y → x ≡ y
      same_head x y p = cc

pub refused_or_not : RefusedOrNot
refused_or_not held r a none = first_some (log_checks held) r a none
