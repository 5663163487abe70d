-- What the code keeps of a table, and of a kind of read.
use Rattle.std.specs.Prelude.{◌≡◌, codes}
use Rattle.snb_schema.specs.declared.layout.Layout.{Layout as CodeLayout}
use Rattle.snb_schema.specs.declared.query.ReadKind.{ReadKind}
use Rattle.snb_schema.specs.declared.query.ReadLayout.{ReadLayout as CodeReadLayout}
use Rattle.snb_schema.specs.declared.table.Table.{Table}
use Rattle.snb_schema.specs.Layouts.{layout}
use Rattle.snb_schema.specs.ReadKinds.{read_layout}

-- what the code keeps of a table is its layout
pub record IsLayoutOf (t : Table) (kept : CodeLayout) : Type 0 where
  pub name : kept.name.now ≡ codes (layout t).name
  pub shape : kept.shape ≡ (layout t).shape
  pub key_columns : kept.key_columns ≡ (layout t).key_columns
  pub from_kind : kept.from_kind ≡ (layout t).from_kind
  pub to_kind : kept.to_kind ≡ (layout t).to_kind
  pub required_of : kept.required_of ≡ (layout t).required_of
  pub has_no_direction : kept.has_no_direction ≡ (layout t).has_no_direction
  pub is_needed : kept.is_needed ≡ (layout t).is_needed
  pub shares : kept.shares ≡ (layout t).shares

-- what the code keeps of a kind of read is its layout
pub record IsReadLayoutOf (kind : ReadKind) (kept : CodeReadLayout) : Type 0 where
  pub word : kept.word.now ≡ (read_layout kind).word
  pub number : kept.number ≡ (read_layout kind).number
  pub parameters : kept.parameters.now ≡ (read_layout kind).parameters
  pub cells : kept.cells.now ≡ (read_layout kind).cells
  pub targets : kept.targets.now ≡ (read_layout kind).targets
  pub is_followed : kept.is_followed ≡ (read_layout kind).is_followed
