-- Values that are taken off the front of tokens.
use Rattle.std.proofs.Common.{◌≡◌, ◌∙◌, codes, ap, sym, subst, refl, arith, ◌≤◌, ◌<◌, ◌+◌, ℕ, suc, List, [], ◌∷◌, ◌++◌, Some, None, Option, MatchOption, Bool, false, ◌^◌, ◌==◌, get_or, lt-ltb, length, length-append, append_assoc, append-nil, take}
use Rattle.std.specs.Prelude.{SomeIff, is_some, option_and_then, option_map, ⊤}
use Rattle.fast_float.specs.Text.{IsInteger, Parts, digits_of, scan}
use Rattle.std.specs.List.{AllZip}
use Rattle.json.specs.Token.{Token, begin_array, begin_object, end_array, end_object, key}
use Rattle.json.specs.Json as json
use Rattle.json.specs.Json.{after_end_array}
use Rattle.std.proofs.lemmas.Option.{same_Some}
use Rattle.std.proofs.Math.Seq.{take-suc}
use Rattle.snb_validation_cases.specs.Replies.{AreStay}
use Rattle.snb_validation_cases.specs.Values.{AreAlong, IsNumberTo, IsString}
use Rattle.snb_schema.specs.declared.limits.TheConstants.{MAX_YEAR}
use Rattle.json.specs.Tree.{json_tokens, items_tokens, members_tokens, items_depth}
use Rattle.json.specs.Value as json_view
use Rattle.serde_json.specs.Data.{Data, Members, Num, array, boolean, item, member, no_members, number, object, put, string, unsigned}
use Rattle.serde_json.specs.Find.{as_array}
use Rattle.serde_json.specs.Read.{number_from, number_of, of_json, of_items, of_members, read}
use Rattle.serde_json.specs.View.{items_of}
use Rattle.json.specs.Lex.{tokens}
use Rattle.json.proofs.Printed.Trees.{value-json_tokens}
use Rattle.snb_schema.specs.declared.op.Line.{Line}
use Rattle.snb_schema.specs.declared.query.Query.{Query}
use Rattle.snb_schema.specs.ReadKinds.{read_kind_of, read_word}
use Rattle.snb_read_model.specs.Cells.{ByteCell}
use Rattle.snb_validation_cases.specs.declared.case.Case.{Case}
use Rattle.snb_validation_cases.specs.declared.case.Case.TheVariants.{Insert, Ask}
use Rattle.snb_schema.specs.UpdateLines.{IsLine}
use Rattle.snb_validation_cases.specs.Cases.{IsCase, IsInsertLine}
use Rattle.snb_validation_cases.specs.Takes.{Makes, Takes, TakesAsk, TakesEach, TakesMembers, TakesSome, tokens_of}

some_token : (j : json.Json) → 0 < length (json_tokens j)
some_token json.null = omega arith
some_token (json.boolean b) = omega arith
some_token (json.number s) = omega arith
some_token (json.string s) = omega arith
some_token (json.array js) = omega arith
some_token (json.object ms) = omega arith

-- fewer tokens are left
pub takes_shorter : (most : ℕ) (P : Data → Type 0) (old new : List Token) → Takes most P old new → length new < length old
takes_shorter most P old new t = omega (arith, some_token t.json, ap length t.first, length-append (json_tokens t.json) new)

pub takes_weaker : (m n : ℕ) (P Q : Data → Type 0) (old new : List Token) → m ≤ n → ((d : Data) → P d → Q d) → Takes m P old new → Takes n Q old new
takes_weaker m n P Q old new le f t = record { json = t.json; value = t.value; first = t.first; makes = (t.makes.0, omega (arith, le, t.makes.1)); is = f t.value t.is }

each_tokens : (js : List json.Json) (new : List Token) → items_tokens (json_view.items_of js) ++ new ≡ tokens_of js ++ end_array ∷ new
each_tokens [] new = refl
each_tokens (j ∷ js) new =
    append_assoc (json_tokens j) (items_tokens (json_view.items_of js)) new ∙ ap (λ ts. json_tokens j ++ ts) (each_tokens js new) ∙ sym (append_assoc (json_tokens j) (tokens_of js) (end_array ∷ new))

each_made : (most : ℕ) (js : List json.Json) (ds : List Data) → AllZip (Makes most) js ds → of_items (json_view.items_of js) ≡ Some (items_of ds)
each_made most [] [] h = refl
each_made most [] (d ∷ ds) h = absurd h
each_made most (j ∷ js) [] h = absurd h
each_made most (j ∷ js) (d ∷ ds) h =
    ap (option_and_then (λ e. option_map (item e) (of_items (json_view.items_of js)))) h.0.0 ∙ ap (option_map (item d)) (each_made most js ds h.1)

each_low : (most : ℕ) (js : List json.Json) (ds : List Data) → AllZip (Makes most) js ds → items_depth (json_view.items_of js) ≤ most
each_low most [] [] h = omega arith
each_low most [] (d ∷ ds) h = absurd h
each_low most (j ∷ js) [] h = absurd h
each_low most (j ∷ js) (d ∷ ds) h = omega (arith, h.0.1, each_low most js ds h.1)

-- an array was taken whose values together are so
abbrev pub ArrayOf : (List Data → Type 0) → Data → Type 0
ArrayOf P d = (ds : List Data) × (as_array d ≡ Some (items_of ds)) × P ds

-- a bracket closes the array
pub takes_array : (most : ℕ) (P : List Data → Type 0) (old mid new : List Token) → TakesSome most P old mid → mid ≡ end_array ∷ new → Takes (suc most) (ArrayOf P) old new
takes_array most P old mid new (inside, opens, t) closes = record {
  json = json.array (json_view.items_of t.jsons);
  value = array (items_of t.values);
  first = opens ∙ ap (λ ts. begin_array ∷ ts) (t.first ∙ ap (λ ts. tokens_of t.jsons ++ ts) closes ∙ sym (each_tokens t.jsons new));
  makes = (ap (option_map array) (each_made most t.jsons t.values t.makes), omega (arith, each_low most t.jsons t.values t.makes));
  is = (t.values, refl, t.are);
}

-- what is said of what is found holds of it
pub found_is : {T : Type 0} (P : T → Type 0) (found : Option T) (x : T) → found ≡ Some x → MatchOption found ⊤ P → P x
found_is P found x is holds = subst (λ (o : Option _). MatchOption o ⊤ P) is holds

-- what a bracket closes begins with it
pub closed : (old new : List Token) → after_end_array old ≡ Some new → old ≡ end_array ∷ new
closed (Token.end_array ∷ ts) new e = ap (λ rest. end_array ∷ rest) (same_Some ts new e)
closed ts new e = absurd cc

-- no value was taken yet
pub each_empty : (most : ℕ) (P : List Data → Type 0) (old : List Token) → P [] → TakesEach most P old old
each_empty most P old p = record { jsons = []; values = []; first = refl; makes = tt; are = p }

made_push : (most : ℕ) (js : List json.Json) (ds : List Data) (j : json.Json) (d : Data) → AllZip (Makes most) js ds → Makes most j d → AllZip (Makes most) (js ++ j ∷ []) (ds ++ d ∷ [])
made_push most [] [] j d h m = (m, tt)
made_push most [] (e ∷ ds) j d h m = absurd h
made_push most (k ∷ js) [] j d h m = absurd h
made_push most (k ∷ js) (e ∷ ds) j d h m = (h.0, made_push most js ds j d h.1 m)

tokens_push : (js : List json.Json) (j : json.Json) (new : List Token) → tokens_of (js ++ j ∷ []) ++ new ≡ tokens_of js ++ (json_tokens j ++ new)
tokens_push [] j new = append_assoc (json_tokens j) [] new
tokens_push (k ∷ js) j new =
    append_assoc (json_tokens k) (tokens_of (js ++ j ∷ [])) new ∙ ap (λ ts. json_tokens k ++ ts) (tokens_push js j new) ∙ sym (append_assoc (json_tokens k) (tokens_of js) (json_tokens j ++ new))

-- one more value was taken
pub each_push : (most : ℕ) (P : List Data → Type 0) (Q : Data → Type 0) (R : List Data → Type 0) (old mid new : List Token) → TakesEach most P old mid → Takes most Q mid new
    → ((ds : List Data) (d : Data) → P ds → Q d → R (ds ++ d ∷ [])) → TakesEach most R old new
each_push most P Q R old mid new t u f = record {
  jsons = t.jsons ++ u.json ∷ [];
  values = t.values ++ u.value ∷ [];
  first = t.first ∙ ap (λ ts. tokens_of t.jsons ++ ts) u.first ∙ sym (tokens_push t.jsons u.json new);
  makes = made_push most t.jsons t.values u.json u.value t.makes u.makes;
  are = f t.values u.value t.are u.is;
}

pub some_push : (most : ℕ) (P : List Data → Type 0) (Q : Data → Type 0) (R : List Data → Type 0) (old mid new : List Token) → TakesSome most P old mid → Takes most Q mid new
    → ((ds : List Data) (d : Data) → P ds → Q d → R (ds ++ d ∷ [])) → TakesSome most R old new
some_push most P Q R old mid new (inside, opens, t) u f = (inside, opens, each_push most P Q R inside mid new t u f)

-- one value was taken, and then others
pub each_cons : (most : ℕ) (P : Data → Type 0) (Q R : List Data → Type 0) (old mid new : List Token) → Takes most P old mid → TakesEach most Q mid new
    → ((d : Data) (ds : List Data) → P d → Q ds → R (d ∷ ds)) → TakesEach most R old new
each_cons most P Q R old mid new t u f = record {
  jsons = t.json ∷ u.jsons;
  values = t.value ∷ u.values;
  first = t.first ∙ ap (λ ts. json_tokens t.json ++ ts) u.first ∙ sym (append_assoc (json_tokens t.json) (tokens_of u.jsons) new);
  makes = (t.makes, u.makes);
  are = f t.value u.values t.is u.are;
}

-- a name, a year and the name of a place were taken
pub stay_taken : (name place : List ℕ) (year : ℕ) (old a b new : List Token) → Takes 0 (λ d. IsString d name) old a → Takes 0 (λ d. IsNumberTo MAX_YEAR d year) a b → Takes 0 (λ d. IsString d place) b new
    → TakesEach 0 (λ ds. AreStay ds (name, year, place)) old new
stay_taken name place year old a b new n y p =
    let last : b ≡ (json_tokens p.json ++ []) ++ new = p.first ∙ ap (λ ts. ts ++ new) (sym (append-nil (json_tokens p.json))) in
    let later : a ≡ (json_tokens y.json ++ (json_tokens p.json ++ [])) ++ new = y.first ∙ ap (λ ts. json_tokens y.json ++ ts) last ∙ sym (append_assoc (json_tokens y.json) (json_tokens p.json ++ []) new) in
    record {
      jsons = n.json ∷ y.json ∷ p.json ∷ [];
      values = n.value ∷ y.value ∷ p.value ∷ [];
      first = n.first ∙ ap (λ ts. json_tokens n.json ++ ts) later ∙ sym (append_assoc (json_tokens n.json) (json_tokens y.json ++ (json_tokens p.json ++ [])) new);
      makes = (n.makes, (y.makes, (p.makes, tt)));
      are = (n.is, y.is, p.is);
    }

-- ---- lists that grow at their ends

pub zip_push : {X : Type 0} (R : Data → X → Type 0) (x : X) (xs : List X) (ds : List Data) (d : Data) → AllZip R ds xs → R d x → AllZip R (ds ++ d ∷ []) (xs ++ x ∷ [])
zip_push R x [] [] d h r = (r, tt)
zip_push R x (y ∷ xs) [] d h r = absurd h
zip_push R x [] (e ∷ ds) d h r = absurd h
zip_push R x (y ∷ xs) (e ∷ ds) d h r = (h.0, zip_push R x xs ds d h.1 r)

pub along_push : {C X : Type 0} (R : C → Data → X → Type 0) (c : C) (x : X) (cs : List C) (xs : List X) (ds : List Data) (d : Data) → AreAlong R cs ds xs → R c d x → AreAlong R (cs ++ c ∷ []) (ds ++ d ∷ []) (xs ++ x ∷ [])
along_push R c x [] [] [] d h r = (r, tt)
along_push R c x [] (y ∷ xs) [] d h r = absurd h
along_push R c x [] [] (e ∷ ds) d h r = absurd h
along_push R c x [] (y ∷ xs) (e ∷ ds) d h r = absurd h
along_push R c x (b ∷ cs) [] [] d h r = absurd h
along_push R c x (b ∷ cs) (y ∷ xs) [] d h r = absurd h
along_push R c x (b ∷ cs) [] (e ∷ ds) d h r = absurd h
along_push R c x (b ∷ cs) (y ∷ xs) (e ∷ ds) d h r = (h.0, along_push R c x cs xs ds d h.1 r)

-- one more element of a list
pub one_more : {C : Type 0} (cs : List C) (i : ℕ) (c : C) → i < length cs → take (i + 1) cs ≡ take i cs ++ get_or cs i c ∷ []
one_more cs i c lt = let on : i + 1 ≡ suc i = omega arith in ap (λ (n : ℕ). take n cs) on ∙ take-suc cs i c lt

-- ---- numbers

-- digits alone are read as the number that they write
pub natural : (s : List ℕ) (p : Parts) (found : Option ℕ) → (get_or s 0 0 == 45) ≡ false → p ≡ scan s → SomeIff found (IsInteger p × (digits_of p < 2 ^ 64)) (digits_of p) → MatchOption found ⊤ (λ n. number_of s ≡ Some (unsigned n))
unfolding number_of
natural s p None plain is h = tt
natural s p (Some n) plain is h =
    let integer : number_from false p ≡ Some (unsigned (digits_of p)) = rw (lt-ltb _ _ h.0.0.0, h.0.0.1, h.0.0.2, lt-ltb _ _ h.0.1) in
    let read : number_of s ≡ number_from false (scan s) = rw plain in
    read ∙ ap (number_from false) (sym is) ∙ integer ∙ ap (λ m. Some (unsigned m)) (sym h.1)

-- ---- values of one token

pub take_string : (s : List ℕ) (P : Data → Type 0) (old new : List Token) → old ≡ Token.string s ∷ new → P (string s) → Takes 0 P old new
take_string s P old new e p = record { json = json.string s; value = string s; first = e; makes = (refl, omega arith); is = p }

pub take_number : (s : List ℕ) (n : Num) (P : Data → Type 0) (old new : List Token) → old ≡ Token.number s ∷ new → number_of s ≡ Some n → P (number n) → Takes 0 P old new
take_number s n P old new e made p = record { json = json.number s; value = number n; first = e; makes = (ap (option_map number) made, omega arith); is = p }

pub take_flag : (b : Bool) (P : Data → Type 0) (old new : List Token) → old ≡ Token.boolean b ∷ new → P (boolean b) → Takes 1 P old new
take_flag b P old new e p = record { json = json.boolean b; value = boolean b; first = e; makes = (refl, omega arith); is = p }

-- a string that is a line is an insert's
pub insert_taken : (s : List ℕ) (old new : List Token) (found : Option Line) → old ≡ Token.string s ∷ new → MatchOption found ((line : Line) → ¬ IsLine s line.t line.t_d line.op) (λ line. IsLine s line.t line.t_d line.op × (line.number ≡ 1))
    → MatchOption found ⊤ (λ line. Takes 0 (λ d. IsInsertLine d line) old new)
insert_taken s old new None e h = tt
insert_taken s old new (Some line) e h = take_string s (λ d. IsInsertLine d line) old new e (s, refl, h.0, h.1)

-- ---- a case

-- an insert was taken
take_insert : (line : Line) (old members inside rest new : List Token) → old ≡ begin_object ∷ members → members ≡ key (codes "insert") ∷ inside → Takes 0 (λ d. IsInsertLine d line) inside rest → rest ≡ end_object ∷ new
    → Takes 6 (λ d. IsCase d (Insert line)) old new
take_insert line old members inside rest new opens named t closes = record {
  json = json.object (json.member (codes "insert") t.json json.no_members);
  value = object (member (codes "insert") t.value no_members);
  first = opens ∙ ap (λ ts. begin_object ∷ ts) (named ∙ ap (λ ts. key (codes "insert") ∷ ts) (t.first ∙ ap (λ ts. json_tokens t.json ++ ts) closes ∙ sym (append_assoc (json_tokens t.json) (end_object ∷ []) new)));
  makes = (ap (λ o. option_map object (option_and_then (λ d. of_members json.no_members (put (codes "insert") d no_members)) o)) t.makes.0, omega (arith, t.makes.1));
  is = record { held = t.value; keys = refl; is_line = t.is };
}

-- a read with its reply was taken
take_ask : (query : Query) (reply : List (List (List ByteCell))) (old members inside rest new : List Token) → old ≡ begin_object ∷ members → members ≡ key (codes "params") ∷ inside → TakesAsk query reply inside rest → rest ≡ end_object ∷ new
    → Takes 6 (λ d. IsCase d (Ask query reply)) old new
take_ask query reply old members inside rest new opens named a closes =
    let word = read_word (read_kind_of query) in
    let p = a.params in
    let r = a.reply_is in
    let later : json.Members = json.member (codes "read") (json.string word) (json.member (codes "reply") r.json json.no_members) in
    let last : a.before_reply ≡ (json_tokens r.json ++ end_object ∷ []) ++ new = r.first ∙ ap (λ ts. json_tokens r.json ++ ts) closes ∙ sym (append_assoc (json_tokens r.json) (end_object ∷ []) new) in
    let between : a.after_params ≡ members_tokens later ++ new = a.between ∙ ap (λ ts. key (codes "read") ∷ Token.string word ∷ key (codes "reply") ∷ ts) last in
    let found : Members = member (codes "params") p.value (member (codes "read") (string word) no_members) in
    record {
      json = json.object (json.member (codes "params") p.json later);
      value = object (member (codes "params") p.value (member (codes "read") (string word) (member (codes "reply") r.value no_members)));
      first = opens ∙ ap (λ ts. begin_object ∷ ts) (named ∙ ap (λ ts. key (codes "params") ∷ ts) (p.first ∙ ap (λ ts. json_tokens p.json ++ ts) between ∙ sym (append_assoc (json_tokens p.json) (members_tokens later) new)));
      makes = (
        ap (λ o. option_map object (option_and_then (λ d. of_members later (put (codes "params") d no_members)) o)) p.makes.0
            ∙ ap (λ o. option_map object (option_and_then (λ d. of_members json.no_members (put (codes "reply") d found)) o)) r.makes.0,
        omega (arith, p.makes.1, r.makes.1),
      );
      is = record { params = p.value; word = string word; held = r.value; keys = refl; asks = (refl, p.is, r.is) };
    }

pub take_case : (case : Case) (old members rest new : List Token) → old ≡ begin_object ∷ members → TakesMembers case members rest → rest ≡ end_object ∷ new → Takes 6 (λ d. IsCase d case) old new
take_case (Insert line) old members rest new opens (inside, named, t) closes = take_insert line old members inside rest new opens named t closes
take_case (Ask query reply) old members rest new opens (inside, named, a) closes = take_ask query reply old members inside rest new opens named a closes

-- what is taken of all tokens of a text is what `serde_json` reads from it
pub taken_read : (P : Data → Type 0) (text : List ℕ) (rest : List Token) → Takes 6 P (tokens text) rest → rest ≡ [] → (d : Data) × (read text ≡ Some d) × P d
taken_read P text rest t end =
    let whole : json.value 127 (tokens text) ≡ Some (t.json, []) = ap (json.value 127) (t.first ∙ ap (λ ts. json_tokens t.json ++ ts) end) ∙ value-json_tokens t.json 127 [] (omega (arith, t.makes.1)) in
    (t.value, ap (λ o. option_and_then of_json (option_and_then (λ p. json.if_last p.0 p.1) o)) whole ∙ t.makes.0, t.is)

-- what is said where nothing is found holds then
pub none_is : {T : Type 0} (Q : Type 0) (P : T → Type 0) (found : Option T) → is_some found ≡ false → MatchOption found Q P → Q
none_is Q P None e holds = holds
none_is Q P (Some x) e holds = absurd cc
