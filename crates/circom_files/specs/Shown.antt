-- The program's own value for a reply, as the reply that it stands for.
use Rattle.std.specs.Option.{option_map}
use Rattle.circom_files.specs.Reply.{Reply, NewFile}
use Rattle.circom_files.specs.declared.reply.Reply.{Reply as CodeReply}
use Rattle.circom_files.specs.declared.reply.NewFile.{NewFile as CodeNewFile}

abbrev pub shown_file : CodeNewFile → NewFile
shown_file f = record { name = f.name.now; bytes = f.bytes }

abbrev pub shown : CodeReply → Reply
shown r = record { status = r.status; text = r.text; file = option_map shown_file r.file }
