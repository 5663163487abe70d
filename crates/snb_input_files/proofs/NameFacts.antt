-- What a shelf may still be asked for after calls that read, and for which names of a stage.
use Rattle.std.proofs.Common.{◌≡◌, ℕ, ◌≤◌, List, [], ◌∷◌, ◌++◌, Contains, true, refl, ◌∙◌, ap, subst}
use Rattle.std.proofs.lemmas.List.Elements.{Contains-append_left, Contains-append_right}
use Rattle.snb_base.specs.Shelf.{Names}
use Rattle.snb_base.proofs.Laws.{contains_here, in_one}
use Rattle.snb_schema.specs.FileNames.{name_of}
use Rattle.snb_input_files.specs.declared.series.Series.{Series}
use Rattle.snb_input_files.specs.Names.{Allows, IsNameIn}
use Rattle.snb_input_files.specs.Walk.{file_at}

-- a name may still be asked for where no call changed the names
pub still_asked : {may after : Names} → after ≡ may → (name : List ℕ) → may name ≡ true → after name ≡ true
still_asked e name h = ap (λ (z : Names). z name) e ∙ h

-- and so may all of these
pub still_allows : {may after : Names} (named : List ℕ → Type 0) → after ≡ may → Allows may named → Allows after named
still_allows named e h name is = still_asked e name (h name is)

-- the names of one series are names of the stage
pub of_series : {names : Names} (stage : List Series) (folder : List ℕ) (s : Series) → Contains stage s → Allows names (IsNameIn stage folder) → Allows names (IsNameIn (s ∷ []) folder)
of_series stage folder s among h name is =
    h name (record { series = is.series; among = subst (λ (z : Series). Contains stage z) (in_one s is.series is.among) among; part = is.part; within = is.within; here = is.here })

-- the names of the first series of a stage are names of the stage, and so are those of the last ones
pub of_front : {names : Names} (front back : List Series) (folder : List ℕ) → Allows names (IsNameIn (front ++ back) folder) → Allows names (IsNameIn front folder)
of_front front back folder h name is =
    h name (record { series = is.series; among = Contains-append_left front back is.series is.among; part = is.part; within = is.within; here = is.here })

pub of_back : {names : Names} (front back : List Series) (folder : List ℕ) → Allows names (IsNameIn (front ++ back) folder) → Allows names (IsNameIn back folder)
of_back front back folder h name is =
    h name (record { series = is.series; among = Contains-append_right front back is.series is.among; part = is.part; within = is.within; here = is.here })

-- a part of a series may be asked for, and the one too many
pub of_part : {names : Names} (folder : List ℕ) (s : Series) (part : ℕ) → part ≤ s.most → Allows names (IsNameIn (s ∷ []) folder) → names (folder ++ 47 ∷ name_of (file_at s part)) ≡ true
of_part folder s part within h = h (folder ++ 47 ∷ name_of (file_at s part)) (record { series = s; among = contains_here s []; part = part; within = within; here = refl })
