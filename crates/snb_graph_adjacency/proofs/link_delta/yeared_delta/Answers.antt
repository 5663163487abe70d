use Rattle.snb_schema.specs.declared.table.Table.TheVariants as table
use Rattle.snb_graph_adjacency.specs.declared.link.Walk.TheVariants.{Messages, Study, Work}
use Rattle.snb_graph_adjacency.proofs.LinkDeltaLemmas.{no_delta, one_delta, other_yeared, stay_delta, study_mute, work_mute}
use Rattle.snb_graph_adjacency.proofs.link_delta.yeared_delta.Goals as goal

pub returns-in-PersonWorkAtOrganisation : goal.returns-in-PersonWorkAtOrganisation
returns-in-PersonWorkAtOrganisation c =
    rw c.in-PersonWorkAtOrganisation.is (one_delta c.args.tables.now.rows _ Work Messages _ (λ e. absurd cc) (stay_delta Work table.PersonWorkAtOrganisation (λ h of id date x. x) (λ h of id date x. x) c.args.tables.now.rows c.args.from c.args.to c.args.year) (work_mute c.args.from c.args.to c.args.year))

pub returns-in-PersonStudyAtOrganisation : goal.returns-in-PersonStudyAtOrganisation
returns-in-PersonStudyAtOrganisation c =
    rw c.in-PersonStudyAtOrganisation.is (one_delta c.args.tables.now.rows _ Study Messages _ (λ e. absurd cc) (stay_delta Study table.PersonStudyAtOrganisation (λ h of id date x. x) (λ h of id date x. x) c.args.tables.now.rows c.args.from c.args.to c.args.year) (study_mute c.args.from c.args.to c.args.year))

pub returns-in_default : goal.returns-in_default
returns-in_default c = no_delta c.args.tables.now.rows _ (other_yeared c.args.table c.args.from c.args.to c.args.year c.in_default.not-PersonWorkAtOrganisation c.in_default.not-PersonStudyAtOrganisation)
