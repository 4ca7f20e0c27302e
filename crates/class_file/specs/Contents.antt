-- An attribute's content as the code represents it (own).
use Rattle.jvms_file.specs.Members.{AttributeFrame}
use Rattle.class_file.specs.declared.content.Content.{Content}

-- Returns the content with its bytes as values.
abbrev pub framed_by : Content → AttributeFrame
framed_by c = record { whole = c.whole; cut = c.cut; content = c.bytes.now; after = c.after.now }
