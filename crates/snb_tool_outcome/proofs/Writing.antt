-- Facts on what is written on channels.
use Rattle.std.proofs.Common.{◌≡◌, ℕ, ◌+◌, ◌-◌, ◌<◌, ◌≤◌, Option, Some, None, List, [], ◌∷◌, ◌++◌, Vec, length, get_or, take, drop, refl, sym, ap, ◌∙◌, inl, inr, arith, length-append}
use lib.Seq.{take-append-add}
use Rattle.std.specs.declared.alloc.Global.{Global}
use Rattle.std.specs.Option.{option_map}
use Rattle.std.proofs.lemmas.List.{append_assoc, append-nil, take-append-drop, take-append-le, take_more, take-take, drop-take}
use Rattle.std.proofs.lemmas.List.Concat.{flat_map-append}
use Rattle.snb_base.specs.declared.outbox.Channel.{Channel}
use Rattle.snb_base.specs.declared.outbox.Channel.TheVariants.{Screen, Log, Answers, Final, Cases}
use Rattle.snb_base.specs.Outbox.{Rooms, Written, nothing, appended, joined, room_of, with_room}
use Rattle.snb_tool_texts.specs.Answers.{bytes_in}
use Rattle.snb_tool_outcome.specs.Output.{IsPrefix, IsWrittenSoFar, on_screen}

-- another number for one channel is that of the channel
pub room_left : (rooms : Rooms) (channel : Channel) (n : ℕ) → room_of (with_room rooms channel n) channel ≡ n
room_left rooms Screen n = refl
room_left rooms Log n = refl
room_left rooms Answers n = refl
room_left rooms Final n = refl
room_left rooms Cases n = refl

-- that of another channel stands
pub with_twice : (rooms : Rooms) (channel : Channel) (n m : ℕ) → with_room (with_room rooms channel n) channel m ≡ with_room rooms channel m
with_twice rooms Screen n m = refl
with_twice rooms Log n m = refl
with_twice rooms Answers n m = refl
with_twice rooms Final n m = refl
with_twice rooms Cases n m = refl

-- bytes taken off twice are taken off together
pub less_left : (rooms : Rooms) (channel : Channel) (n m : ℕ)
    → with_room (with_room rooms channel (room_of rooms channel - n)) channel (room_of (with_room rooms channel (room_of rooms channel - n)) channel - m)
    ≡ with_room rooms channel (room_of rooms channel - (n + m))
less_left rooms channel n m =
    let e : room_of (with_room rooms channel (room_of rooms channel - n)) channel - m ≡ room_of rooms channel - (n + m) =
    ap (λ (k : ℕ). k - m) (room_left rooms channel (room_of rooms channel - n)) ∙ omega arith in
    with_twice rooms channel _ _ ∙ ap (with_room rooms channel) e

-- two pieces on one channel are one
pub appended-appended : (w : Written) (channel : Channel) (a b : List ℕ) → appended (appended w channel a) channel b ≡ appended w channel (a ++ b)
appended-appended w Screen a b = simp append_assoc
appended-appended w Log a b = simp append_assoc
appended-appended w Answers a b = simp append_assoc
appended-appended w Final a b = simp append_assoc
appended-appended w Cases a b = simp append_assoc

-- the next piece goes after the bytes so far
pub take-then-take : (n m : ℕ) (bytes : List ℕ) → take n bytes ++ take m (drop n bytes) ≡ take (n + m) bytes
take-then-take n m bytes =
    ap (λ (x : List ℕ). x ++ take m (drop n bytes)) (sym (take-take n (n + m) bytes (omega arith)))
    ∙ ap (λ (x : List ℕ). take n (take (n + m) bytes) ++ x) (sym (drop-take n m bytes))
    ∙ take-append-drop n (take (n + m) bytes)

-- bytes after others are written together
pub written_both : (channel : Channel) (a b both : List ℕ) (old now new : Option Written)
    → a ++ b ≡ both
    → now ≡ option_map (λ w. appended w channel a) old
    → new ≡ option_map (λ w. appended w channel b) now
    → new ≡ option_map (λ w. appended w channel both) old
written_both channel a b both None now new p e f = f ∙ ap (option_map (λ w. appended w channel b)) e
written_both channel a b both (Some w) now new p e f =
    f ∙ ap (option_map (λ w. appended w channel b)) e ∙ ap Some (appended-appended w channel a b ∙ ap (appended w channel) p)

-- one more piece of what is left is written
pub written-more : (channel : Channel) (bytes piece : List ℕ) (n m : ℕ) (old now new : Option Written)
    → piece ≡ drop n bytes
    → now ≡ option_map (λ w. appended w channel (take n bytes)) old
    → new ≡ option_map (λ w. appended w channel (take m piece)) now
    → new ≡ option_map (λ w. appended w channel (take (n + m) bytes)) old
written-more channel bytes piece n m old now new p =
    written_both channel (take n bytes) (take m piece) _ old now new (ap (λ (x : List ℕ). take n bytes ++ take m x) p ∙ take-then-take n m bytes)

-- the bytes of the pieces up to the next
pub next_piece : (pieces : List (Vec ℕ Global)) (i : ℕ) (piece : Vec ℕ Global) (bytes : List ℕ) → i < length pieces → piece ≡ get_or pieces i piece → bytes ≡ piece.items
    → bytes_in (take i pieces) ++ bytes ≡ bytes_in (take (i + 1) pieces)
next_piece pieces i piece bytes l p b =
    sym
    (ap bytes_in (take_more pieces i piece l)
    ∙ flat_map-append (λ (q : Vec ℕ Global). q.items) (take i pieces) (get_or pieces i piece ∷ [])
    ∙ ap (λ (x : List ℕ). bytes_in (take i pieces) ++ x) (append-nil _ ∙ ap (λ (q : Vec ℕ Global). q.items) (sym p) ∙ sym b))

-- they begin those of all
pub first_pieces : (pieces : List (Vec ℕ Global)) (i : ℕ) → IsPrefix (bytes_in (take i pieces)) (bytes_in pieces)
first_pieces pieces i = (
  bytes_in (drop i pieces),
  sym (flat_map-append (λ (q : Vec ℕ Global). q.items) (take i pieces) (drop i pieces)) ∙ ap bytes_in (take-append-drop i pieces),
)

-- bytes of a whole, of which a front is written already
module _ (channel : Channel) (front bytes both whole : List ℕ) (same : front ++ bytes ≡ both) (p : IsPrefix both whole) where
  together : (front ++ bytes) ++ p.0 ≡ whole
  together = ap (λ (x : List ℕ). x ++ p.0) same ∙ p.1

  lengths : length front + length bytes + length p.0 ≡ length whole
  lengths = omega (arith, length-append front bytes, length-append (front ++ bytes) p.0, ap length together)

  -- they fit after it
  pub fit_after : (rooms : Rooms) → length whole ≤ room_of rooms channel → length bytes ≤ room_of (with_room rooms channel (room_of rooms channel - length front)) channel
  fit_after rooms l = omega (arith, l, lengths, room_left rooms channel (room_of rooms channel - length front))

  -- what is left after both
  pub left_after : (rooms : Rooms)
      → with_room (with_room rooms channel (room_of rooms channel - length front)) channel
      (room_of (with_room rooms channel (room_of rooms channel - length front)) channel - length bytes)
      ≡ with_room rooms channel (room_of rooms channel - length both)
  left_after rooms =
      less_left rooms channel (length front) (length bytes)
      ∙ ap (λ (n : ℕ). with_room rooms channel (room_of rooms channel - n)) (sym (length-append front bytes) ∙ ap length same)

  -- a front of them follows
  pub cut_after : (n : ℕ) (old now new : Option Written) → n < length bytes
      → now ≡ option_map (λ w. appended w channel front) old
      → new ≡ option_map (λ w. appended w channel (take n bytes)) now
      → (m : ℕ) × (m < length whole) × (new ≡ option_map (λ w. appended w channel (take m whole)) old)
  cut_after n old now new l e f = (
    length front + n,
    omega (arith, l, lengths),
    written_both channel front (take n bytes) (take (length front + n) whole) old now new
        (sym
        (ap (take (length front + n)) (sym together)
        ∙ take-append-le (length front + n) (front ++ bytes) p.0 (omega (arith, l, length-append front bytes))
        ∙ take-append-add front bytes n))
        e f,
  )

-- bytes at the end of one channel of the second part are at the end of the whole's
pub appended-joined : (w v : Written) (channel : Channel) (bytes : List ℕ) → appended (joined w v) channel bytes ≡ joined w (appended v channel bytes)
appended-joined w v Screen bytes = simp append_assoc
appended-joined w v Log bytes = simp append_assoc
appended-joined w v Answers bytes = simp append_assoc
appended-joined w v Final bytes = simp append_assoc
appended-joined w v Cases bytes = simp append_assoc

-- with nothing more
pub joined-nothing : (w : Written) → joined w nothing ≡ w
joined-nothing w = simp append-nil

-- the first bytes of a call
pub begun : (channel : Channel) (bytes : List ℕ) (old new : Option Written)
    → new ≡ option_map (λ w. appended w channel bytes) old
    → new ≡ option_map (λ w. joined w (appended nothing channel bytes)) old
begun channel bytes None new e = e
begun channel bytes (Some w) new e =
    e ∙ ap Some (ap (λ (x : Written). appended x channel bytes) (sym (joined-nothing w)) ∙ appended-joined w nothing channel bytes)

-- bytes after those of a call so far
pub continued : (v : Written) (channel : Channel) (bytes : List ℕ) (old now new : Option Written)
    → now ≡ option_map (λ w. joined w v) old
    → new ≡ option_map (λ w. appended w channel bytes) now
    → new ≡ option_map (λ w. joined w (appended v channel bytes)) old
continued v channel bytes None now new e f = f ∙ ap (option_map (λ w. appended w channel bytes)) e
continued v channel bytes (Some w) now new e f =
    f ∙ ap (option_map (λ w. appended w channel bytes)) e ∙ ap Some (appended-joined w v channel bytes)

-- equal bytes are a prefix
prefix-whole : (bytes whole : List ℕ) → bytes ≡ whole → IsPrefix bytes whole
prefix-whole bytes whole e = ([], append-nil bytes ∙ e)

-- no bytes are a prefix
prefix-none : (whole : List ℕ) → IsPrefix [] whole
prefix-none whole = (whole, refl)

-- the first bytes are a prefix
prefix-take : (n : ℕ) (bytes whole : List ℕ) → bytes ≡ whole → IsPrefix (take n bytes) whole
prefix-take n bytes whole e = (drop n bytes, take-append-drop n bytes ∙ e)

-- a front of the whole was written
abbrev pub HasFront : Written → Option Written → Option Written → Type 0
HasFront whole old new = (part : Written) × IsWrittenSoFar part whole × (new ≡ option_map (λ w. joined w part) old)

-- the log alone was begun
pub stopped_in_log : (whole : Written) (log : List ℕ) (n : ℕ) (old new : Option Written)
    → log ≡ whole.log
    → new ≡ option_map (λ w. appended w Log (take n log)) old
    → HasFront whole old new
stopped_in_log whole log n old new l e = (
  appended nothing Log (take n log),
  record {
    log = prefix-take n log _ l;
    answers = prefix-none _;
    finals = prefix-none _;
    cases = prefix-none _;
    screen = prefix-none _;
    after_log = inr (refl, refl, refl, refl);
    after_answers = inr (refl, refl, refl);
    after_finals = inr (refl, refl);
    after_cases = inr refl;
  },
  begun Log (take n log) old new e,
)

-- the log is whole, and the answers were begun
pub stopped_in_answers : (whole : Written) (log answers : List ℕ) (n : ℕ) (old first new : Option Written)
    → log ≡ whole.log
    → answers ≡ whole.answers
    → first ≡ option_map (λ w. appended w Log log) old
    → new ≡ option_map (λ w. appended w Answers (take n answers)) first
    → HasFront whole old new
stopped_in_answers whole log answers n old first new l a d e = (
  appended (appended nothing Log log) Answers (take n answers),
  record {
    log = prefix-whole log _ l;
    answers = prefix-take n answers _ a;
    finals = prefix-none _;
    cases = prefix-none _;
    screen = prefix-none _;
    after_log = inl l;
    after_answers = inr (refl, refl, refl);
    after_finals = inr (refl, refl);
    after_cases = inr refl;
  },
  continued _ Answers (take n answers) old first new (begun Log log old first d) e,
)

-- the log and the answers are whole, and the final text was begun
pub stopped_in_finals : (whole : Written) (log answers finals : List ℕ) (n : ℕ) (old first second new : Option Written)
    → log ≡ whole.log
    → answers ≡ whole.answers
    → finals ≡ whole.finals
    → first ≡ option_map (λ w. appended w Log log) old
    → second ≡ option_map (λ w. appended w Answers answers) first
    → new ≡ option_map (λ w. appended w Final (take n finals)) second
    → HasFront whole old new
stopped_in_finals whole log answers finals n old first second new l a f c d e = (
  appended (appended (appended nothing Log log) Answers answers) Final (take n finals),
  record {
    log = prefix-whole log _ l;
    answers = prefix-whole answers _ a;
    finals = prefix-take n finals _ f;
    cases = prefix-none _;
    screen = prefix-none _;
    after_log = inl l;
    after_answers = inl a;
    after_finals = inr (refl, refl);
    after_cases = inr refl;
  },
  continued _ Final (take n finals) old second new (continued _ Answers answers old first second (begun Log log old first c) d) e,
)

-- the log, the answers and the final text are whole, and the cases were begun
pub stopped_in_cases : (whole : Written) (log answers finals cases : List ℕ) (n : ℕ) (old first second third new : Option Written)
    → log ≡ whole.log
    → answers ≡ whole.answers
    → finals ≡ whole.finals
    → cases ≡ whole.cases
    → first ≡ option_map (λ w. appended w Log log) old
    → second ≡ option_map (λ w. appended w Answers answers) first
    → third ≡ option_map (λ w. appended w Final finals) second
    → new ≡ option_map (λ w. appended w Cases (take n cases)) third
    → HasFront whole old new
stopped_in_cases whole log answers finals cases n old first second third new l a f s b c d e = (
  appended (appended (appended (appended nothing Log log) Answers answers) Final finals) Cases (take n cases),
  record {
    log = prefix-whole log _ l;
    answers = prefix-whole answers _ a;
    finals = prefix-whole finals _ f;
    cases = prefix-take n cases _ s;
    screen = prefix-none _;
    after_log = inl l;
    after_answers = inl a;
    after_finals = inl f;
    after_cases = inr refl;
  },
  continued _ Cases (take n cases) old third new (continued _ Final finals old second third (continued _ Answers answers old first second (begun Log log old first b) c) d) e,
)

-- all but the screen's text is whole, and that was begun
pub stopped_in_screen : (whole : Written) (log answers finals cases screen : List ℕ) (n : ℕ) (old first second third fourth new : Option Written)
    → log ≡ whole.log
    → answers ≡ whole.answers
    → finals ≡ whole.finals
    → cases ≡ whole.cases
    → screen ≡ whole.screen
    → first ≡ option_map (λ w. appended w Log log) old
    → second ≡ option_map (λ w. appended w Answers answers) first
    → third ≡ option_map (λ w. appended w Final finals) second
    → fourth ≡ option_map (λ w. appended w Cases cases) third
    → new ≡ option_map (λ w. appended w Screen (take n screen)) fourth
    → HasFront whole old new
stopped_in_screen whole log answers finals cases screen n old first second third fourth new l a f s t b c d e g = (
  appended (appended (appended (appended (appended nothing Log log) Answers answers) Final finals) Cases cases) Screen (take n screen),
  record {
    log = prefix-whole log _ l;
    answers = prefix-whole answers _ a;
    finals = prefix-whole finals _ f;
    cases = prefix-whole cases _ s;
    screen = prefix-take n screen _ t;
    after_log = inl l;
    after_answers = inl a;
    after_finals = inl f;
    after_cases = inl s;
  },
  continued _ Screen (take n screen) old fourth new
      (continued _ Cases cases old third fourth (continued _ Final finals old second third (continued _ Answers answers old first second (begun Log log old first b) c) d) e) g,
)

-- the screen's text alone was begun
pub stopped_in_shown : (text : List ℕ) (n : ℕ) (old new : Option Written)
    → new ≡ option_map (λ w. appended w Screen (take n text)) old
    → HasFront (on_screen text) old new
stopped_in_shown text n old new e = (
  appended nothing Screen (take n text),
  record {
    log = prefix-none _;
    answers = prefix-none _;
    finals = prefix-none _;
    cases = prefix-none _;
    screen = prefix-take n text _ refl;
    after_log = inl refl;
    after_answers = inl refl;
    after_finals = inl refl;
    after_cases = inl refl;
  },
  begun Screen (take n text) old new e,
)
