use Rattle.std.proofs.Common.{subst}
use Rattle.snb_graph_tables.specs.Entries.{IsEntry}
use Rattle.snb_graph_tables.proofs.SameLemmas.{word_keyed}
use Rattle.snb_graph_tables.proofs.tables.Tables.has_same.Goals as goal

pub has_this_edge-requires : goal.has_this_edge-requires
has_this_edge-requires c = let fits = subst IsEntry c.in-Edge.is c.requires.fits in record { edge = fits.stands; keyed = fits.keyed }

pub has_word-requires : goal.has_word-requires
has_word-requires c = (subst IsEntry c.in-Word.is c.requires.fits).stands

pub returns-in-Word : goal.returns-in-Word
returns-in-Word c = rw c.in-Word.is (word_keyed c.args.self.now.rows c.in-Word.key c.has_word.result c.known.ensures (subst IsEntry c.in-Word.is c.requires.fits).stands c.has_word.ensures)
